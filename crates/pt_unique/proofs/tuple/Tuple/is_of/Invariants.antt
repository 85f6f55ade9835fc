use Rattle.std.proofs.Common.{◌≡◌, take}
use Rattle.pt_ast.specs.Bounds.{cells_at}
use Rattle.pt_unique.proofs.tuple.Tuple.is_of.Given as goal

abbrev pub invariant-loop-i : goal.invariant-loop-i
invariant-loop-i l = take l.i l.self-inside.parts.items ≡ cells_at l.cells (take l.i l.columns)
