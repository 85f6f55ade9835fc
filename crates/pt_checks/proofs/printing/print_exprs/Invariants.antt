use Rattle.std.proofs.Common.{◌≡◌, ◌++◌, map, take, false}
use Rattle.pt_value.specs.Text.{shown}
use Rattle.pt_expr.specs.Values.{whole_value}
use Rattle.pt_checks.specs.Printed.{with_tabs}
use Rattle.pt_checks.proofs.printing.print_exprs.Given as goal

abbrev pub invariant-loop-at : goal.invariant-loop-at
invariant-loop-at l = l.out.items ≡ l.initial.out.items ++ with_tabs (map (λ expr. shown (whole_value l.columns expr false l.cells)) (take l.at l.exprs))
