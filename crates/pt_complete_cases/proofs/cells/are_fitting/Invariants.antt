use Rattle.std.proofs.Common.{◌↔◌, drop}
use Rattle.pt_expr.specs.Columns.{AreFitting}
use Rattle.pt_complete_cases.proofs.cells.are_fitting.Given as goal

abbrev pub invariant-loop-at : goal.invariant-loop-at
invariant-loop-at l = AreFitting (drop l.at l.columns) (drop l.at l.cells) ↔ AreFitting l.columns l.cells
