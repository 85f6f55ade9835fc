use Rattle.std.proofs.Common.{◌≡◌, take}
use Rattle.pt_ast.specs.Bounds.{cells_at}
use Rattle.pt_unique.proofs.tuple.Tuple.of.Given as goal

abbrev pub invariant-loop-column : goal.invariant-loop-column
invariant-loop-column l = l.parts.items ≡ cells_at l.cells (take l.column-index l.columns)
