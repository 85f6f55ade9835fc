use Rattle.std.proofs.Common.{◌≡◌, drop}
use Rattle.pt_expr.specs.Found.{finding}
use Rattle.pt_expr.specs.Stepping.{sum_rest, product_rest}
use Rattle.pt_expr.proofs.typing.+finding.Given as goal

abbrev pub invariant-loop-part : goal.invariant-loop-part
invariant-loop-part l = sum_rest l.columns l.sum (drop l.part-index l.part-items) ≡ finding l.columns l.expr

abbrev pub invariant-loop-op : goal.invariant-loop-op
invariant-loop-op l = product_rest l.columns l.product (drop l.op-index l.op-items) ≡ finding l.columns l.expr
