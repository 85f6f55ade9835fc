use Rattle.std.proofs.Common.{ap, ap₂, sym, ◌∙◌}
use Rattle.std.specs.Prelude.{Bool, ◌&&◌}
use Rattle.pt_interval.specs.Spans.{has}
use Rattle.pt_reach.specs.Domains.{passes}
use Rattle.pt_reach.proofs.Finding.{met, null_met}
use Rattle.pt_reach.proofs.searching.has_some.Goals as goal

pub returns-then-null_found : goal.returns-then-null_found
returns-then-null_found g c = null_met g.T.Line.cmp g.T.Line.is_value g.T.Scale.value c.args.reach.now (passes c.args.first) (passes c.args.second) (sym c.null_found.ensures ∙ c.if-null_found.true)

pub returns : goal.returns
returns g c =
    met g.T.Line.cmp g.T.Line.is_value g.T.Scale.value c.args.reach.now (passes c.args.first) (passes c.args.second) c.is_empty.result c.in_ok-found.found (sym c.null_found.ensures ∙ c.if-null_found.false)
    (λ v value.
    c.in_ok-found.ensures v
    ∙ ap (λ (b : Bool). has g.T.Line.cmp c.args.reach.now.spans v && b) (c.in_ok-passing_both.ensures v ∙ ap₂ (λ (a b : Bool). a && b) (c.in_ok-passing_first.ensures v value) (c.in_ok-passing_second.ensures v value)))
    c.is_empty.ensures
