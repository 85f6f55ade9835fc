use Rattle.std.proofs.Common.{◌≡◌, drop}
use Rattle.pt_ast.specs.Bounds.{tuple_cmp}
use Rattle.pt_bounds.specs.Sought.{items_of}
use Rattle.pt_bounds.proofs.compare.tuple_cmp.Given as goal

abbrev pub invariant-loop-at : goal.invariant-loop-at
invariant-loop-at l = tuple_cmp l.tuple (items_of l.other) ≡ tuple_cmp (drop l.at l.tuple) (drop l.at (items_of l.other))
