use Rattle.std.proofs.Common.{sym, ap, ◌∙◌, length, take, arith, []}
use Rattle.std.proofs.lemmas.List.{get_or-map}
use Rattle.pt_ast.specs.Lists.{is_list_fault, repeats, entries}
use Rattle.pt_bounds.proofs.Firsts.{first_at, first_none}
use Rattle.pt_bounds.proofs.lists.first_fault.Goals as goal

pub returns-then-repeats : goal.returns-then-repeats
returns-then-repeats c =
    let parts = c.args.parts.now in
    let own = get_or-map (λ part. part.bounds) parts c.loop-at.at c.index-parts-at.result [] c.loop-at-test.true in
    let faulty = ap (repeats (entries (take c.loop-at.at parts))) (own ∙ sym c.items.ensures) ∙ sym c.repeats.ensures ∙ c.if-repeats.true in
    sym (first_at (is_list_fault parts) (length parts) c.loop-at.at c.loop-at-test.true c.loop-at.invariant faulty)

pub returns : goal.returns
returns c = sym (first_none (is_list_fault c.args.parts.now) (length c.args.parts.now) (λ k less. c.loop-at.invariant k (omega (arith, less, c.loop-at-test.false))))
