use Rattle.std.proofs.Common.{◌≡◌, drop}
use Rattle.pt_expr.specs.Truths.{are_dates}
use Rattle.pt_reach.proofs.operands.are_dates.Given as goal

abbrev pub invariant-loop-expr : goal.invariant-loop-expr
invariant-loop-expr l = are_dates l.columns (drop l.expr-index l.expr-items) ≡ are_dates l.columns l.list
