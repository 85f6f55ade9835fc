use Rattle.std.proofs.Common.{sym, ap, ◌∙◌, arith, length, take, [], Some, ℕ, List}
use Rattle.std.proofs.lemmas.List.{get_or-map}
use Rattle.pt_ast.specs.declared.table.Bound.{Bound}
use Rattle.pt_ast.specs.declared.table.PartDef.{PartDef}
use Rattle.pt_ast.specs.declared.refusal.Refusal.TheVariants.{ValueTwice}
use Rattle.pt_ast.specs.Lists.{entries, is_list_fault, repeats, stands_among}
use Rattle.pt_bounds.proofs.Firsts.{first_at, first_none}
use Rattle.pt_place.specs.Checks.{of_list_fault}
use Rattle.pt_distinct.proofs.Told.{below_more, entries_more, name_at}
use Rattle.pt_distinct.proofs.lists.value_twice.Goals as goal

pub returns-then-branch : goal.returns-then-branch
returns-then-branch c =
    let parts = c.args.parts.now in
    let at = c.loop-at.at in
    let own = get_or-map (λ (part : PartDef). part.bounds) parts at c.index-parts-at.result [] c.loop-at-test.true in
    let faulty = ap (repeats (entries (take at parts))) (own ∙ sym c.items.ensures) ∙ sym (c.in_ok-repeats.ensures.found (entries (take at parts)) c.loop-at.invariant.0) ∙ c.if-branch.true in
    sym (ap (of_list_fault parts) (first_at (is_list_fault parts) (length parts) at c.loop-at-test.true c.loop-at.invariant.1 faulty)
    ∙ ap (λ (name : List ℕ). Some (ValueTwice name)) (name_at parts at c.index-parts-at-then-branch.result c.loop-at-test.true))

pub loop-at-preserved : goal.loop-at-preserved
loop-at-preserved c =
    let parts = c.args.parts.now in
    let at = c.loop-at.at in
    let own = get_or-map (λ (part : PartDef). part.bounds) parts at c.index-parts-at.result [] c.loop-at-test.true in
    let fine = ap (repeats (entries (take at parts))) (own ∙ sym c.items.ensures) ∙ sym (c.in_ok-repeats.ensures.found (entries (take at parts)) c.loop-at.invariant.0) ∙ c.if-branch.false in (
      λ tuple. c.in_ok-repeats.ensures.seen (entries (take at parts)) c.loop-at.invariant.0 c.if-branch.false tuple
          ∙ ap (λ (l : List (List Bound)). stands_among l tuple) (entries_more parts at c.index-parts-at.result c.items.result.now c.loop-at-test.true c.items.ensures),
      below_more (is_list_fault parts) at c.loop-at.invariant.1 fine,
    )

pub returns : goal.returns
returns c =
    let parts = c.args.parts.now in
    sym (ap (of_list_fault parts) (first_none (is_list_fault parts) (length parts) (λ k less. c.loop-at.invariant.1 k (omega (arith, less, c.loop-at-test.false)))))
