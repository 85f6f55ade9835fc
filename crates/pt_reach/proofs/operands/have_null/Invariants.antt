use Rattle.std.proofs.Common.{◌≡◌, drop, map}
use Rattle.std.specs.List.{list_any}
use Rattle.pt_expr.specs.Truths.{is_null, operand}
use Rattle.pt_reach.proofs.operands.have_null.Given as goal

abbrev pub invariant-loop-expr : goal.invariant-loop-expr
invariant-loop-expr l = list_any is_null (map (operand l.columns l.cells l.dates) (drop l.expr-index l.expr-items)) ≡ list_any is_null (map (operand l.columns l.cells l.dates) l.list)
