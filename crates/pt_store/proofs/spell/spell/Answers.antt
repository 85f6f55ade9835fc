use Rattle.std.proofs.Common.{◌≡◌, List, ℕ, length, refl, ap, arith}
use Rattle.std.proofs.lemmas.List.{take_more}
use Rattle.pt_left.specs.Spelling.{number}
use Rattle.pt_store.proofs.Writing.{writing_starts, content_written, writes_file, writing_through, writing_ends}
use Rattle.pt_store.proofs.spell.spell.Goals as goal

pub loop-name-init : goal.loop-name-init
unfolding number
loop-name-init c =
    rw (c.in_ok-put_u64.ensures.ok, c.new-out.ensures.items, c.new-entries.ensures) (writing_starts (length c.args.files.now))

pub overflow_sub-len : goal.overflow_sub-len
overflow_sub-len c = omega (arith, c.len.ensures, c.put_file.new.out.ok, content_written _ _ _ c.in_ok-put_file.ensures.spelled)

pub loop-name-preserved : goal.loop-name-preserved
loop-name-preserved c =
    let put = rw c.items-bytes.ensures at c.in_ok-put_file.ensures in
    let long : length c.items-bytes.result.now ≡ length c.loop-name-item.result.1 = ap (λ (b : List ℕ). length b) c.items-bytes.ensures in
    rw (c.in_ok-push.ensures.ok, take_more c.args.files.now c.loop-name.name-index c.loop-name-item.result c.loop-name-test.true, ← c.loop-name-item.is)
    (writes_file c.loop-name.out.items c.put_file.new.out.items c.loop-name-item.result put.spelled (length c.args.files.now) _ _ _ c.loop-name.invariant put.is
    refl long (omega (arith, c.len.ensures, c.put_file.new.out.ok, long)))

pub returns-clause-spelled : goal.returns-clause-spelled
returns-clause-spelled c = writing_ends _ _ _ (omega arith) (writing_through _ _ _ _ c.loop-name-test.false c.loop-name.invariant)

pub returns-clause-entries : goal.returns-clause-entries
returns-clause-entries c = (writing_through _ _ _ _ c.loop-name-test.false c.loop-name.invariant).entries_are
