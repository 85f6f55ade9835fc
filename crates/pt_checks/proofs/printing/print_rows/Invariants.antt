use Rattle.std.proofs.Common.{◌≡◌, ◌++◌, take}
use Rattle.std.specs.List.{flat_map}
use Rattle.pt_checks.specs.Printed.{row_text}
use Rattle.pt_checks.proofs.printing.print_rows.Given as goal

abbrev pub invariant-loop-row : goal.invariant-loop-row
invariant-loop-row l = l.out.items ≡ l.initial.out.items ++ flat_map (λ row. row_text l.columns l.items row.cells) (take l.row-index l.rows)
