use Rattle.std.proofs.Common.{sym}
use Rattle.pt_defs.proofs.Fields.{found_long, found_number, missing_number, long_none, long_few, long_enough}
use Rattle.pt_defs.proofs.get_item.long_at.Goals as goal

pub returns-in_default : goal.returns-in_default
returns-in_default c = long_none c.args.bytes.now (missing_number c.args.bytes.now 2 (sym (rw c.new.ensures at c.in_default.ensures)))

pub split_at-requires : goal.split_at-requires
split_at-requires c = found_long c.args.bytes.now 2 _ (sym (rw c.new.ensures at c.in-Some.ensures))

pub returns-then-rest-count : goal.returns-then-rest-count
returns-then-rest-count c =
    long_few c.args.bytes.now _ _ (found_number c.args.bytes.now 2 _ _ (sym (rw c.new.ensures at c.in-Some.ensures)) c.split_at.ensures.back) c.if-rest-count.true

pub returns : goal.returns
returns c =
    long_enough c.args.bytes.now _ _ _ _ (found_number c.args.bytes.now 2 _ _ (sym (rw c.new.ensures at c.in-Some.ensures)) c.split_at.ensures.back) c.if-rest-count.false c.split_at-2.ensures.front c.split_at-2.ensures.back
