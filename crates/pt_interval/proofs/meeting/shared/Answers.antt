use Rattle.std.proofs.Common.{sym, ◌∙◌}
use Rattle.pt_interval.proofs.Meet.{begins, ends_turn, step_at, turned}
use Rattle.pt_interval.proofs.meeting.shared.Goals as goal

pub loop-i-init : goal.loop-i-init
loop-i-init g c =
    begins g.T.Line.cmp g.T.Line.is_value g.T.Line.least c.new-spans.result.items c.args.a.now c.args.b.now c.first_met-i.result c.new-spans.ensures.items c.first_met-i.ensures.sets c.first_met-i.ensures.rises c.requires.b_rises

pub loop-i-preserved-then-ends_by : goal.loop-i-preserved-then-ends_by
loop-i-preserved-then-ends_by g c =
    step_at g.met.T.Line.laws.order _ _ c.args.a.now c.args.b.now c.loop-i.i c.loop-i.j c.index-a-i.result c.index-b-j.result c.loop-i-test.true c.if-j-b.true c.index-a-i.is c.index-b-j.is
    (sym c.ends_by.ensures ∙ c.if-ends_by.true) c.in_ok-push_shared.ensures c.loop-i.invariant

pub loop-i-preserved : goal.loop-i-preserved
loop-i-preserved g c =
    let order = g.met.T.Line.laws.order in
    turned order (step_at order _ _ c.args.b.now c.args.a.now c.loop-i.j c.loop-i.i c.index-b-j.result c.index-a-i.result c.if-j-b.true c.loop-i-test.true c.index-b-j.is c.index-a-i.is
    (ends_turn order c.index-a-i.result.to c.index-b-j.result.to (sym c.ends_by.ensures ∙ c.if-ends_by.false)) c.in_ok-push_shared-2.ensures (turned order c.loop-i.invariant))
