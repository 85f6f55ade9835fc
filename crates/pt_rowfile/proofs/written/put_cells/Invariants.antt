use Rattle.std.proofs.Common.{◌≡◌, ◌++◌, All, take}
use Rattle.std.specs.List.{flat_map}
use Rattle.pt_rowfile.specs.Cells.{IsCell, cell_bytes}
use Rattle.pt_rowfile.proofs.written.put_cells.Given as goal

abbrev pub invariant-loop-cell : goal.invariant-loop-cell
invariant-loop-cell l = record {
  written : l.out.items ≡ l.initial.out.items ++ flat_map cell_bytes (take l.cell-index l.cells);
  cells : All IsCell (take l.cell-index l.cells);
}
