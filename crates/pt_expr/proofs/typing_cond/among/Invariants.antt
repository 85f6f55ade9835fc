use Rattle.std.proofs.Common.{◌≡◌, ◌∷◌, drop}
use Rattle.pt_expr.specs.FoundCond.{alike_verdict}
use Rattle.pt_expr.specs.Stepping.{operands_rest}
use Rattle.pt_expr.proofs.typing_cond.among.Given as goal

abbrev pub invariant-loop-item : goal.invariant-loop-item
invariant-loop-item l = operands_rest l.columns l.operands (drop l.item-index l.item-items) ≡ alike_verdict l.columns (l.expr ∷ l.list)
