use Rattle.std.proofs.Common.{◌≡◌, ◌++◌, map, take}
use Rattle.pt_value.specs.Text.{shown}
use Rattle.pt_checks.specs.Printed.{with_tabs}
use Rattle.pt_checks.proofs.printing.print_cells.Given as goal

abbrev pub invariant-loop-at : goal.invariant-loop-at
invariant-loop-at l = l.out.items ≡ l.initial.out.items ++ with_tabs (map shown (take l.at l.cells))
