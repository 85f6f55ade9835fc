use Rattle.std.proofs.Common.{ℕ, drop}
use Rattle.pt_value.specs.Cell.{lent}
use Rattle.pt_expr.proofs.Evaluating.{SumGoes, ProductGoes}
use Rattle.pt_expr.proofs.values.+value_of.Given as goal

abbrev pub invariant-loop-minus : goal.invariant-loop-minus
invariant-loop-minus l = (bound : ℕ) × SumGoes l.columns l.cells l.expr bound (lent l.sum) (drop l.minus-index l.minus-items)

abbrev pub invariant-loop-op : goal.invariant-loop-op
invariant-loop-op l = (bound : ℕ) × ProductGoes l.columns l.cells l.expr bound (lent l.product) (drop l.op-index l.op-items)
