use Rattle.std.proofs.Common.{◌≡◌, drop, map}
use Rattle.pt_value.specs.Cell.{lent}
use Rattle.pt_expr.specs.Stepping.{among_rest}
use Rattle.pt_expr.specs.Truths.{among_truth, operand}
use Rattle.pt_expr.proofs.truths.among.Given as goal

abbrev pub invariant-loop-item : goal.invariant-loop-item
invariant-loop-item l = among_rest (lent l.x) l.met_null (map (operand l.columns l.cells l.dates) (drop l.item-index l.item-items)) ≡ among_truth l.columns l.cells l.expr l.list
