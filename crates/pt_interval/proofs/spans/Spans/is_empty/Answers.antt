use Rattle.std.proofs.Common.{◌==◌, length, subst, ap, ◌∙◌, Some}
use Rattle.pt_interval.specs.Spans.{IsRisingFrom}
use Rattle.pt_interval.proofs.Places.{emptiness}
use Rattle.pt_interval.proofs.spans.Spans.is_empty.Goals as goal

pub returns : goal.returns
returns g c =
    emptiness g.met.T.Line.laws c.args.self.now c.is_empty.result (c.is_empty.ensures ∙ ap (λ spans. length spans == 0) (c.as_slice.ensures.value ∙ c.self.view_is))
    (subst (IsRisingFrom g.T.Line.cmp g.T.Line.is_value (Some g.T.Line.least)) c.self.view_is c.self.invariant)
