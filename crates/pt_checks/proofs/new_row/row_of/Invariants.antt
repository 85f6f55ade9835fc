use Rattle.std.proofs.Common.{◌≡◌, fold, drop}
use Rattle.std.specs.Prelude.{zip}
use Rattle.pt_expr.specs.Columns.{AreFitting}
use Rattle.pt_checks.specs.Cells.{row_of, with_value}
use Rattle.pt_checks.proofs.new_row.row_of.Given as goal

abbrev pub invariant-loop-at : goal.invariant-loop-at
invariant-loop-at l =
    (fold (with_value l.columns) l.cells.items (zip (drop l.at l.targets) (drop l.at l.specs)) ≡ row_of l.columns (zip l.targets l.specs))
    × AreFitting l.columns l.cells.items
