use Rattle.pt_bytes.proofs.Parts.{part_past, part_short, part_split}
use Rattle.pt_bytes.proofs.cursor.part_at.Goals as goal

pub returns-in_err-rest : goal.returns-in_err-rest
returns-in_err-rest c = rw c.from_residual.ensures (part_past _ c.args.at c.args.len c.in_err-rest.ensures.cases)

pub returns-in_err-part : goal.returns-in_err-part
returns-in_err-part c = rw c.from_residual-in_err-part.ensures (part_short _ c.args.at c.args.len _ _ c.in_ok-rest.ensures.cases c.in_err-part.ensures.cases)

pub returns : goal.returns
returns c = part_split _ c.args.at c.args.len _ _ _ _ c.in_ok-rest.ensures.cases c.in_ok-part.ensures.cases
