use Rattle.std.proofs.Common.{◌≡◌, drop}
use Rattle.pt_place.specs.First.{first_in}
use Rattle.pt_checks.specs.Assigned.{bad_assign}
use Rattle.pt_checks.proofs.assigns.bad_values.Given as goal

abbrev pub invariant-loop-assign : goal.invariant-loop-assign
invariant-loop-assign l = first_in (bad_assign l.table l.columns) (drop l.assign-index l.assign-items) ≡ first_in (bad_assign l.table l.columns) l.assigns
