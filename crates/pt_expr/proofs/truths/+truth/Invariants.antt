use Rattle.std.proofs.Common.{◌≡◌, drop, map}
use Rattle.std.specs.Prelude.{All, IsOk, fold}
use Rattle.pt_value.specs.Truth.{least, greatest}
use Rattle.pt_expr.specs.FoundCond.{checked_cond}
use Rattle.pt_expr.specs.Truths.{truth}
use Rattle.pt_expr.proofs.truths.+truth.Given as goal

abbrev pub invariant-loop-part : goal.invariant-loop-part
invariant-loop-part l = (fold greatest l.any (map (truth l.columns l.cells) (drop l.part-index l.part-items)) ≡ truth l.columns l.cells l.cond) × All (λ cond. IsOk (checked_cond l.columns cond)) l.part-items

abbrev pub invariant-loop-part-2 : goal.invariant-loop-part-2
invariant-loop-part-2 l = (fold least l.all (map (truth l.columns l.cells) (drop l.part-index l.part-items)) ≡ truth l.columns l.cells l.cond) × All (λ cond. IsOk (checked_cond l.columns cond)) l.part-items
