-- What the types say of an expression, node by node.
use Rattle.std.proofs.Common.{◌≡◌, ◌∙◌, Bool, List, map, sym, subst}
use Rattle.std.specs.List.{All}
use Rattle.std.specs.Int.{w128}
use Rattle.std.specs.Int.RustNames.{FitsSigned}
use Rattle.std.proofs.lemmas.List.Elements.{All-map, recursion_from_All}
use Rattle.pt_bytes.specs.Numbers.{AreBytes}
use Rattle.pt_ast.specs.declared.tree.Expr.{Expr}
use Rattle.pt_ast.specs.declared.tree.Expr.TheOpen.{Expr-F}
use Rattle.pt_ast.specs.declared.tree.Expr.TheVariants as tree
use Rattle.pt_ast.specs.declared.tree.Expr.TheVariants.{rolls-Call, rolls-Column, rolls-Date, rolls-Hex, rolls-Neg, rolls-Null, rolls-Number, rolls-Product, rolls-Sum, rolls-Text}
use Rattle.pt_ast.specs.declared.tree.Func.{Func}
use Rattle.pt_ast.specs.declared.tree.Op.{Op}
use Rattle.pt_defs.specs.Fitting.{FitsExpr, FitsNode}
use Rattle.pt_defs.proofs.Nodes.{every_roll}

module _ (expr : Expr) where
  pub number_fits : (n : _) → expr ≡ tree.Number n → FitsSigned w128 n → FitsExpr expr
  number_fits n is fits = subst FitsExpr (rolls-Number n ∙ sym is) (every_roll FitsNode (Expr-F.Number n) fits tt)

  pub text_fits : (bytes lent : List _) → expr ≡ tree.Text bytes → lent ≡ bytes → AreBytes lent → FitsExpr expr
  text_fits bytes lent is same fits = subst FitsExpr (rolls-Text bytes ∙ sym is) (every_roll FitsNode (Expr-F.Text bytes) (subst AreBytes same fits) tt)

  pub hex_fits : (bytes lent : List _) → expr ≡ tree.Hex bytes → lent ≡ bytes → AreBytes lent → FitsExpr expr
  hex_fits bytes lent is same fits = subst FitsExpr (rolls-Hex bytes ∙ sym is) (every_roll FitsNode (Expr-F.Hex bytes) (subst AreBytes same fits) tt)

  pub date_fits : (day : _) → expr ≡ tree.Date day → FitsExpr expr
  date_fits day is = subst FitsExpr (rolls-Date day ∙ sym is) (every_roll FitsNode (Expr-F.Date day) tt tt)

  pub null_fits : expr ≡ tree.Null → FitsExpr expr
  null_fits is = subst FitsExpr (rolls-Null ∙ sym is) (every_roll FitsNode Expr-F.Null tt tt)

  pub column_fits : (name : _) → expr ≡ tree.Column name → FitsExpr expr
  column_fits name is = subst FitsExpr (rolls-Column name ∙ sym is) (every_roll FitsNode (Expr-F.Column name) tt tt)

  pub neg_fits : (part lent : Expr) → expr ≡ tree.Neg part → lent ≡ part → FitsExpr lent → FitsExpr expr
  neg_fits part lent is same fits = subst FitsExpr (rolls-Neg part ∙ sym is) (every_roll FitsNode (Expr-F.Neg part) tt (subst FitsExpr same fits, tt))

  pub call_fits : (called : Func) (part lent : Expr) → expr ≡ tree.Call called part → lent ≡ part → FitsExpr lent → FitsExpr expr
  call_fits called part lent is same fits = subst FitsExpr (rolls-Call called part ∙ sym is) (every_roll FitsNode (Expr-F.Call called part) tt (subst FitsExpr same fits, tt))

  pub sum_fits : (parts : List (Bool × Expr)) → expr ≡ tree.Sum parts → All (λ (part : Bool × Expr). FitsExpr part.1) parts → FitsExpr expr
  sum_fits parts is fits = subst FitsExpr (rolls-Sum parts ∙ sym is) (every_roll FitsNode (Expr-F.Sum parts) tt (recursion_from_All FitsExpr (map (λ p. p.1) parts) (All-map FitsExpr (λ (p : Bool × Expr). p.1) parts fits)))

  pub product_fits : (first lent : Expr) (parts : List (Op × Expr)) → expr ≡ tree.Product first parts → lent ≡ first → FitsExpr lent → All (λ (part : Op × Expr). FitsExpr part.1) parts → FitsExpr expr
  product_fits first lent parts is same fits rest =
      subst FitsExpr (rolls-Product first parts ∙ sym is)
      (every_roll FitsNode (Expr-F.Product first parts) tt (subst FitsExpr same fits, recursion_from_All FitsExpr (map (λ p. p.1) parts) (All-map FitsExpr (λ (p : Op × Expr). p.1) parts rest)))
