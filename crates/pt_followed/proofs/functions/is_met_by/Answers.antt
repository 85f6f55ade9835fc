use Rattle.std.proofs.Common.{Some, List, [], ◌∷◌, ap, get_or, map, subst, sym, ◌∙◌, Option}
use Rattle.pt_ast.specs.declared.table.Bound.{Bound}
use Rattle.pt_ast.specs.Ranges.{bound_of}
use Rattle.pt_reach.specs.Domains.{passes}
use Rattle.pt_followed.specs.Steps.{IsNumberBound, IsNumberEnd, bound_before, come_to, is_below, is_from}
use Rattle.pt_followed.proofs.Comings.{number_at, number_before, some_told}
use Rattle.pt_followed.proofs.functions.is_met_by.Goals as goal

pub returns : goal.returns
returns c =
    let come = come_to (Some c.args.func) in
    let bounds = map bound_of c.args.parts.now in
    some_told c.in_ok-met.met c.args.set.now (passes (Some c.from_day-low.result)) (passes (Some c.before_day-high.result)) (λ v. is_from (bound_before bounds c.args.at) (come v ∷ [])) (λ v. is_below (Some (get_or bounds c.args.at [])) (come v ∷ []))
    (λ v held.
    c.from_day-low.ensures v (subst IsNumberEnd (sym c.bound_before.ensures) (number_before c.args.parts.now c.args.at c.requires.numbers c.requires.at)) (c.requires.days v held)
    ∙ ap (λ (low : Option (List Bound)). is_from low (come v ∷ [])) c.bound_before.ensures)
    (λ v held.
    c.before_day-high.ensures v (subst IsNumberBound (sym c.bound_at.ensures) (number_at c.args.parts.now c.args.at c.requires.numbers c.requires.at)) (c.requires.days v held)
    ∙ ap (λ (high : List Bound). is_below (Some high) (come v ∷ [])) c.bound_at.ensures)
    c.in_ok-met.ensures
