use Rattle.std.proofs.Common.{◌≡◌, map, take}
use Rattle.pt_checks.specs.Cells.{default_of}
use Rattle.pt_checks.proofs.new_row.defaults.Given as goal

abbrev pub invariant-loop-column : goal.invariant-loop-column
invariant-loop-column l = l.cells.items ≡ map default_of (take l.column-index l.columns)
