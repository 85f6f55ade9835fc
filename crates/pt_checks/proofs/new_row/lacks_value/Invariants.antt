use Rattle.std.proofs.Common.{◌≡◌, drop}
use Rattle.pt_checks.specs.Cells.{lacks_value}
use Rattle.pt_checks.proofs.new_row.lacks_value.Given as goal

abbrev pub invariant-loop-at : goal.invariant-loop-at
invariant-loop-at l = lacks_value (drop l.at l.columns) (drop l.at l.cells) ≡ lacks_value l.columns l.cells
