use Rattle.std.proofs.Common.{◌≡◌, take}
use Rattle.pt_db.specs.Rows.{with_cells}
use Rattle.pt_flat.proofs.updating.with_cells.Given as goal

abbrev pub invariant-loop-row : goal.invariant-loop-row
invariant-loop-row l = l.changed ≡ with_cells l.serial l.cells (take l.row-index l.rows)
