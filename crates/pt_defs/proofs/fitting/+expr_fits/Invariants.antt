use Rattle.std.proofs.Common.{All, Bool, take}
use Rattle.pt_ast.specs.declared.tree.Expr.{Expr}
use Rattle.pt_ast.specs.declared.tree.Op.{Op}
use Rattle.pt_defs.specs.Fitting.{FitsExpr}
use Rattle.pt_defs.proofs.fitting.+expr_fits.Given as goal

abbrev pub invariant-terms_fit-loop-part : goal.invariant-terms_fit-loop-part
invariant-terms_fit-loop-part l = All (λ (part : Bool × Expr). FitsExpr part.1) (take l.part-index l.part-items)

abbrev pub invariant-factors_fit-loop-part : goal.invariant-factors_fit-loop-part
invariant-factors_fit-loop-part l = All (λ (part : Op × Expr). FitsExpr part.1) (take l.part-index l.part-items)
