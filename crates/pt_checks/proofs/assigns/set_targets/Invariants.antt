use Rattle.std.proofs.Common.{◌≡◌, take}
use Rattle.pt_checks.specs.Assigned.{set_targets}
use Rattle.pt_checks.proofs.assigns.set_targets.Given as goal

abbrev pub invariant-loop-name : goal.invariant-loop-name
invariant-loop-name l = l.found ≡ set_targets l.def.columns (take l.name-index l.name-items)
