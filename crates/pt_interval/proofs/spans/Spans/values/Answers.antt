use Rattle.std.proofs.Common.{◌+◌, subst, ◌∙◌}
use Rattle.pt_interval.specs.Counting.{AreUpTo}
use Rattle.pt_interval.specs.Spans.{has}
use Rattle.pt_interval.proofs.Places.{listed}
use Rattle.pt_interval.proofs.spans.Spans.values.Goals as goal

pub returns : goal.returns
returns g c =
    listed g.met.T.Line.laws (has g.T.Line.cmp c.args.self.now) c.args.limit c.count_up_to.result c.in_ok-values.values.items c.count_up_to.ensures c.if-count_up_to-limit.false
    (subst (λ spans. AreUpTo g.T.Line.cmp g.T.Line.is_value (has g.T.Line.cmp spans) (c.args.limit + 1) c.in_ok-values.values.items) (c.deref.ensures.value ∙ c.self.view_is) c.in_ok-values.ensures)
