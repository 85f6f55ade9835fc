use Rattle.std.proofs.Common.{refl, ◌∙◌, ◌++◌}
use Rattle.pt_engine.proofs.InputLemmas.{front_more, front_short, stopped_within, short_cut, short_whole}
use Rattle.pt_engine.proofs.input.take_script.Goals as goal

pub returns-then-count-eq0-clause-short : goal.returns-then-count-eq0-clause-short
returns-then-count-eq0-clause-short g c = rw c.into_statements.ensures (short_whole c.end.new.self c.loop-count.invariant.some.0 (c.in_ok-end.ensures.whole c.loop-count.invariant.some.0 c.loop-count.invariant.some.1))

pub returns-then-not-branch-clause-short : goal.returns-then-not-branch-clause-short
returns-then-not-branch-clause-short g c =
    rw c.into_statements-then-not-branch.ensures
    (short_cut c.feed.new.self _ (rw c.if-not-branch.true at (c.in_ok-feed.ensures.takes c.loop-count.invariant.some.0 c.loop-count.invariant.some.1)))

pub returns-then-not-branch-clause-ok : goal.returns-then-not-branch-clause-ok
returns-then-not-branch-clause-ok g c tells =
    let had = c.loop-count.invariant.taken tells in
    rw c.into_statements-then-not-branch.ensures
    (front_short _ _ _ c.loop-count.script c.feed.new.self _ _ _ c.in-Ok.count (c.in-Ok.ensures.bytes tells) refl (c.in-Ok.ensures.ok tells) had
    (rw c.if-not-branch.true at (c.in_ok-feed.ensures.takes had.front had.taken)))

pub returns-in-Err-clause-err : goal.returns-in-Err-clause-err
returns-in-Err-clause-err g c tells =
    let had = c.loop-count.invariant.taken tells in
    rw (c.in-Err.ensures.failed tells) (had.only, stopped_within _ _ c.loop-count.script had)

pub loop-count-preserved : goal.loop-count-preserved
loop-count-preserved g c = record {
  some = (c.loop-count.invariant.some.0 ++ _, rw c.if-not-branch.false at (c.in_ok-feed.ensures.takes c.loop-count.invariant.some.0 c.loop-count.invariant.some.1));
  taken = λ tells.
      let had = c.loop-count.invariant.taken tells in
      front_more _ _ _ c.loop-count.script c.feed.new.self _ _ _ c.in-Ok.count (c.in-Ok.ensures.bytes tells) refl (c.in-Ok.ensures.ok tells) had
      (rw c.if-not-branch.false at (c.in_ok-feed.ensures.takes had.front had.taken));
  counts = c.in-Ok.ensures.counts.kept ∙ c.loop-count.invariant.counts;
}
