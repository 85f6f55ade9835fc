use Rattle.std.proofs.Common.{ap, ap₂, ◌∙◌, rules, SFits, ℤ, Some}
use Rattle.std.specs.Int.{w128}
use Rattle.std.specs.Prelude.{Bool, ◌&&◌}
use Rattle.std.specs.Ordering.{int_cmp}
use Rattle.std.proofs.lemmas.Int.{to_z-of_z}
use Rattle.pt_interval.specs.Spans.{has, is_within}
use Rattle.pt_reach.proofs.following.cut.Goals as goal

pub returns : goal.returns
returns c = λ v value.
    let low : SFits w128 c.args.low = search rules in
    let end : SFits w128 c.args.end = search rules in
    c.in_ok-set.ensures v
    ∙ ap (λ (b : Bool). has int_cmp c.args.spans.now v && b)
    (c.in_ok-within.ensures v value ∙ ap₂ (λ (p q : ℤ). is_within int_cmp (record { from = p; to = Some q }) v) (to_z-of_z w128 c.args.low low) (to_z-of_z w128 c.args.end end))
