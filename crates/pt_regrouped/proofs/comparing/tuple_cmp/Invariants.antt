use Rattle.std.proofs.Common.{◌≡◌, drop}
use Rattle.pt_ast.specs.Bounds.{tuple_cmp}
use Rattle.pt_regrouped.proofs.comparing.tuple_cmp.Given as goal

abbrev pub invariant-loop-at : goal.invariant-loop-at
invariant-loop-at l = tuple_cmp l.tuple l.other ≡ tuple_cmp (drop l.at l.tuple) (drop l.at l.other)
