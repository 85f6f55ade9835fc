use Rattle.std.proofs.Common.{◌≡◌, drop}
use Rattle.pt_expr.specs.Columns.{cell_named}
use Rattle.pt_expr.proofs.columns.cell_named.Given as goal

abbrev pub invariant-loop-at : goal.invariant-loop-at
invariant-loop-at l = cell_named l.name (drop l.at l.columns) (drop l.at l.cells) ≡ cell_named l.name l.columns l.cells
