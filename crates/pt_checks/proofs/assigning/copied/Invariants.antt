use Rattle.std.proofs.Common.{◌≡◌, take}
use Rattle.pt_checks.proofs.assigning.copied.Given as goal

abbrev pub invariant-loop-value : goal.invariant-loop-value
invariant-loop-value l = l.values.items ≡ take l.value-index l.cells
