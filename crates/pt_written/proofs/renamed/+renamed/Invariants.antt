use Rattle.std.proofs.Common.{◌≡◌, take, map}
use Rattle.pt_ast.specs.declared.tree.Op.{Op}
use Rattle.pt_ast.specs.declared.tree.Expr.{Expr}
use Rattle.std.specs.Prelude.{Bool}
use Rattle.pt_written.specs.WrittenParts.{renamed}
use Rattle.pt_written.proofs.renamed.+renamed.Given as goal

abbrev pub invariant-loop-minus : goal.invariant-loop-minus
invariant-loop-minus l = l.made ≡ map (λ (part : Bool × Expr). (part.0, renamed l.columns part.1)) (take l.minus-index l.minus-items)

abbrev pub invariant-loop-op : goal.invariant-loop-op
invariant-loop-op l = (l.made ≡ map (λ (part : Op × Expr). (part.0, renamed l.columns part.1)) (take l.op-index l.op-items)) × (l.first ≡ l.initial.first)
