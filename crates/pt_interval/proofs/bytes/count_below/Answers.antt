use Rattle.std.proofs.Common.{◌++◌, sym, ap, ◌∙◌}
use Rattle.std.specs.Ordering.{is_le}
use Rattle.pt_interval.proofs.Gap.{below_apart, below_others, below_zeros, split_front}
use Rattle.pt_interval.proofs.bytes.count_below.Goals as goal

pub returns-in_default : goal.returns-in_default
returns-in_default c =
    below_apart c.args.limit c.args.from.now c.args.to.now (sym (c.is_le.ensures ∙ ap is_le c.cmp.ensures) ∙ c.if-is_le.false) c.in_default.ensures.cases

pub returns-then-are_zeros : goal.returns-then-are_zeros
returns-then-are_zeros c =
    let found = c.in-Some.ensures.cases in
    c.lesser.ensures
    ∙ below_zeros c.args.limit c.args.from.now c.args.to.now c.in-Some.rest.now (split_front c.args.from.now c.args.to.now found.0 ∙ ap (λ r. c.args.from.now ++ r) (sym found.1))
    (sym c.are_zeros.ensures ∙ c.if-are_zeros.true)

pub returns : goal.returns
returns c =
    let found = c.in-Some.ensures.cases in
    below_others c.args.limit c.args.from.now c.args.to.now c.in-Some.rest.now (sym (c.is_le.ensures ∙ ap is_le c.cmp.ensures) ∙ c.if-is_le.false)
    (split_front c.args.from.now c.args.to.now found.0 ∙ ap (λ r. c.args.from.now ++ r) (sym found.1)) (sym c.are_zeros.ensures ∙ c.if-are_zeros.false)
