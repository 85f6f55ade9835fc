use Rattle.std.proofs.Common.{◌≡◌, ◌<◌, ℕ, false, map}
use Rattle.pt_ast.specs.Ranges.{bound_of, is_range_fault}
use Rattle.pt_distinct.proofs.ranges.bad_ranges.Given as goal

abbrev pub invariant-loop-at : goal.invariant-loop-at
invariant-loop-at l = (k : ℕ) → k < l.at → is_range_fault (map bound_of l.parts) k ≡ false
