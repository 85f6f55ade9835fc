use Rattle.std.proofs.Common.{sym}
use Rattle.pt_defs.proofs.Fields.{no_length, length_told}
use Rattle.pt_defs.proofs.get_def.has_length.Goals as goal

pub returns-in_default : goal.returns-in_default
returns-in_default c = no_length c.args.bytes.now (sym (rw c.new.ensures at c.in_default.ensures))

pub returns : goal.returns
returns c = length_told c.args.bytes.now _ _ (sym (rw c.new.ensures at c.in-Some.ensures)) c.saturating_sub.ensures
