use Rattle.std.proofs.Common.{refl, arith}
use Rattle.pt_store.proofs.Reading.{none_without_number, reading_starts, none_without_file, reads_file, after_fits, content_fits, none_with_more, reading_ends, some_left, none_is_left}
use Rattle.pt_store.proofs.parse.files_of.Goals as goal

pub returns-in_default : goal.returns-in_default
returns-in_default c = none_without_number c.args.bytes.now c.in_default.ensures

pub loop-init : goal.loop-init
loop-init c =
    let read = c.in-Some.ensures in
    rw c.new-entries.ensures (reading_starts c.args.bytes.now c.in-Some.count c.in-Some.rest.now read.0 read.1)

pub returns-in_default-file_at : goal.returns-in_default-file_at
returns-in_default-file_at c = none_without_file c.args.bytes.now _ _ _ _ c.loop.invariant c.loop-test.true c.in_default-file_at.ensures

pub overflow_sub-bytes : goal.overflow_sub-bytes
overflow_sub-bytes c =
    let found = c.in-Some-file_at.ensures in
    after_fits c.args.bytes.now _ _ _ _ c.loop.invariant _ _ found.0 found.1

pub overflow_sub-bytes-in-loop : goal.overflow_sub-bytes-in-loop
overflow_sub-bytes-in-loop c =
    let found = c.in-Some-file_at.ensures in
    content_fits c.args.bytes.now _ _ _ _ c.loop.invariant _ _ found.0 found.1

pub loop-preserved : goal.loop-preserved
loop-preserved c =
    let found = c.in-Some-file_at.ensures in
    rw c.in_ok-push.ensures.ok (reads_file c.args.bytes.now _ _ _ _ c.loop.invariant _ _ found.0 found.1 _ c.loop-test.true refl refl refl)

pub returns-then-not-is_empty : goal.returns-then-not-is_empty
returns-then-not-is_empty c =
    none_with_more c.args.bytes.now _ _ _ _ c.loop.invariant c.loop-test.false (some_left _ _ c.if-not-is_empty.true c.is_empty.ensures)

pub returns : goal.returns
returns c = reading_ends c.args.bytes.now _ _ _ _ c.loop.invariant (omega arith) c.loop-test.false (none_is_left _ _ c.if-not-is_empty.false c.is_empty.ensures)
