use Rattle.std.proofs.Common.{◌≡◌, drop}
use Rattle.pt_place.specs.First.{first_in}
use Rattle.pt_checks.specs.Assigned.{bad_target}
use Rattle.pt_checks.proofs.assigns.missing_target.Given as goal

abbrev pub invariant-loop-name : goal.invariant-loop-name
invariant-loop-name l = first_in (bad_target l.columns) (drop l.name-index l.name-items) ≡ first_in (bad_target l.columns) l.assigns
