use Rattle.std.proofs.Common.{◌≡◌, ◌*◌, ◌≤◌, length, take}
use Rattle.std.specs.List.{flat_map}
use Rattle.pt_rowfile.specs.Cells.{cell_bytes}
use Rattle.pt_rowfile.proofs.written.cells_size.Given as goal

abbrev pub invariant-loop-cell : goal.invariant-loop-cell
invariant-loop-cell l = record {
  size : l.size ≡ length (flat_map cell_bytes (take l.cell-index l.cells));
  most : l.size ≤ 4099 * l.cell-index;
}
