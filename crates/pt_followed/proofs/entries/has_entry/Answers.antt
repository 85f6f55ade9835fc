use Rattle.std.proofs.Common.{sym}
use Rattle.pt_followed.proofs.Entered.{unlike_entry}
use Rattle.pt_followed.proofs.entries.has_entry.Goals as goal

pub returns-then-sets-entry : goal.returns-then-sets-entry
returns-then-sets-entry c = sym (unlike_entry c.args.sets.now c.args.entry.now c.if-sets-entry.true)
