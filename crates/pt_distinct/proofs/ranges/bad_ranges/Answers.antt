use Rattle.std.proofs.Common.{sym, ap, ◌∙◌, arith, Some, ℕ, List}
use Rattle.pt_ast.specs.declared.refusal.Refusal.TheVariants.{MaxvalueNotLast, NotIncreasing}
use Rattle.pt_bounds.proofs.Rising.{early_max_found, low_found, no_fault}
use Rattle.pt_place.specs.Checks.{of_range_fault}
use Rattle.pt_distinct.proofs.Told.{name_at}
use Rattle.pt_distinct.proofs.ranges.bad_ranges.Goals as goal

pub returns-then-is_early_max : goal.returns-then-is_early_max
returns-then-is_early_max c =
    let parts = c.args.parts.now in
    let found = early_max_found parts c.loop-at.at c.loop-at-test.true c.loop-at.invariant (sym c.is_early_max.ensures ∙ c.if-is_early_max.true) in
    sym (ap (of_range_fault parts) found ∙ ap (λ (name : List ℕ). Some (MaxvalueNotLast name)) (name_at parts c.loop-at.at c.index-parts-at.result c.loop-at-test.true))

pub returns-then-is_low : goal.returns-then-is_low
returns-then-is_low c =
    let parts = c.args.parts.now in
    let found = low_found parts c.loop-at.at c.loop-at-test.true c.loop-at.invariant (sym c.is_early_max.ensures ∙ c.if-is_early_max.false) (sym c.is_low.ensures ∙ c.if-is_low.true) in
    sym (ap (of_range_fault parts) found ∙ ap (λ (name : List ℕ). Some (NotIncreasing name)) (name_at parts c.loop-at.at c.index-parts-at-then-is_low.result c.loop-at-test.true))

pub returns : goal.returns
returns c =
    let parts = c.args.parts.now in
    sym (ap (of_range_fault parts) (no_fault parts (λ k less. c.loop-at.invariant k (omega (arith, less, c.loop-at-test.false)))))
