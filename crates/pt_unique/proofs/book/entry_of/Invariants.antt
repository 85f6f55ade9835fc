use Rattle.std.proofs.Common.{◌≡◌, map, take}
use Rattle.std.specs.List.{enumerate_from}
use Rattle.pt_ast.specs.Bounds.{cells_at}
use Rattle.pt_unique.proofs.book.entry_of.Given as goal

abbrev pub invariant-loop-number : goal.invariant-loop-number
invariant-loop-number l = l.entry ≡ enumerate_from 0 (map (cells_at l.cells) (take l.number l.keys))
