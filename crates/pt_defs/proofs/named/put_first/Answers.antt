use Rattle.std.proofs.Common.{sym}
use Rattle.pt_defs.proofs.Positions.{enters, stays}
use Rattle.pt_defs.proofs.named.put_first.Goals as goal

pub returns : goal.returns
returns c = enters _ c.args.name.now c.args.place _ (sym c.if-contains_key.ensures) c.in_ok-insert.ensures.updates.0

pub returns-then-contains_key : goal.returns-then-contains_key
returns-then-contains_key c = stays _ c.args.name.now c.args.place (sym c.if-contains_key.ensures)
