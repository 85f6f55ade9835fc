use Rattle.std.proofs.Common.{sym}
use Rattle.pt_defs.proofs.Fields.{found_long, found_number, missing_number}
use Rattle.pt_defs.proofs.get_item.u64_at.Goals as goal

pub returns-in_default : goal.returns-in_default
returns-in_default c = missing_number c.args.bytes.now 8 (sym (rw c.new.ensures at c.in_default.ensures))

pub split_at-requires : goal.split_at-requires
split_at-requires c = found_long c.args.bytes.now 8 _ (sym (rw c.new.ensures at c.in-Some.ensures))

pub returns : goal.returns
returns c = found_number c.args.bytes.now 8 _ _ (sym (rw c.new.ensures at c.in-Some.ensures)) c.split_at.ensures.back
