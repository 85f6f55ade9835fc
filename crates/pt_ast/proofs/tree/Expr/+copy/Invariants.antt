use Rattle.std.proofs.Common.{◌≡◌, take}
use Rattle.pt_ast.proofs.tree.Expr.+copy.Given as goal

abbrev pub invariant-loop-minus : goal.invariant-loop-minus
invariant-loop-minus l = l.copied ≡ take l.minus-index l.minus-items

abbrev pub invariant-loop-op : goal.invariant-loop-op
invariant-loop-op l = (l.copied ≡ take l.op-index l.op-items) × (l.first ≡ l.initial.first)
