use Rattle.std.proofs.Common.{sym, ◌∙◌, arith}
use Rattle.pt_bounds.proofs.Rising.{early_max_found, low_found, no_fault}
use Rattle.pt_bounds.proofs.ranges.first_fault.Goals as goal

pub returns-then-is_early_max : goal.returns-then-is_early_max
returns-then-is_early_max c =
    sym (early_max_found c.args.parts.now c.loop-at.at c.loop-at-test.true c.loop-at.invariant (sym c.is_early_max.ensures ∙ c.if-is_early_max.true))

pub returns-then-is_low : goal.returns-then-is_low
returns-then-is_low c =
    sym (low_found c.args.parts.now c.loop-at.at c.loop-at-test.true c.loop-at.invariant (sym c.is_early_max.ensures ∙ c.if-is_early_max.false) (sym c.is_low.ensures ∙ c.if-is_low.true))

pub returns : goal.returns
returns c = sym (no_fault c.args.parts.now (λ k less. c.loop-at.invariant k (omega (arith, less, c.loop-at-test.false))))
