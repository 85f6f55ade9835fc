use Rattle.std.proofs.Common.{sym, ap, ◌∙◌, Some}
use Rattle.pt_interval.proofs.Gaps.{ended_at, last_at, next_at}
use Rattle.pt_interval.proofs.outside.gaps.Goals as goal

pub returns-in-None-clause-sets : goal.returns-in-None-clause-sets
returns-in-None-clause-sets g c =
    (ended_at g.met.T.Line.laws.order c.loop-span.gaps.items c.push_between.new.spans.items c.args.spans.now c.loop-span.span-index c.span-item.result c.loop-span.low
    c.loop-span-test.true c.span-item.is c.in-None.is c.in_ok-push_between.ensures c.loop-span.invariant).0

pub returns-in-None-clause-rises : goal.returns-in-None-clause-rises
returns-in-None-clause-rises g c =
    (ended_at g.met.T.Line.laws.order c.loop-span.gaps.items c.push_between.new.spans.items c.args.spans.now c.loop-span.span-index c.span-item.result c.loop-span.low
    c.loop-span-test.true c.span-item.is c.in-None.is c.in_ok-push_between.ensures c.loop-span.invariant).1

pub loop-span-preserved : goal.loop-span-preserved
loop-span-preserved g c =
    next_at g.met.T.Line.laws.order c.loop-span.gaps.items c.push_between.new.spans.items c.args.spans.now c.loop-span.span-index c.span-item.result c.loop-span.low c.in_ok-low-in-Some.low
    c.loop-span-test.true c.span-item.is (c.in-Some.is ∙ ap Some (sym c.in_ok-low-in-Some.ensures)) c.in_ok-push_between.ensures c.loop-span.invariant

pub returns-clause-sets : goal.returns-clause-sets
returns-clause-sets g c =
    (last_at g.met.T.Line.laws.order c.loop-span.gaps.items c.push.new.self.items c.args.spans.now c.loop-span.span-index c.loop-span.low c.loop-span-test.false c.in_ok-push.ensures.items c.loop-span.invariant).0

pub returns-clause-rises : goal.returns-clause-rises
returns-clause-rises g c =
    (last_at g.met.T.Line.laws.order c.loop-span.gaps.items c.push.new.self.items c.args.spans.now c.loop-span.span-index c.loop-span.low c.loop-span-test.false c.in_ok-push.ensures.items c.loop-span.invariant).1
