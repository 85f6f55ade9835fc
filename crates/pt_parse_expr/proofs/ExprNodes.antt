-- How the nodes of a storable expression come together.
use Rattle.std.proofs.Common.{◌≡◌, ℕ, suc, ◌≤◌, ℤ, List, [], ◌∷◌, map, max, Option, refl, arith, ap, ◌∙◌, sym, subst}
use Rattle.pt_ast.specs.declared.tree.Func.{Func}
use Rattle.pt_ast.specs.declared.tree.Expr.{Expr, every-Expr, fold-roll-Expr, every_made-Expr}
use Rattle.pt_ast.specs.declared.tree.Expr.TheOpen.{Expr-F}
use Rattle.pt_ast.specs.declared.tree.Expr.TheVariants as tree
use Rattle.pt_ast.specs.declared.tree.Expr.TheVariants.{rolls-Number, rolls-Text, rolls-Hex, rolls-Date, rolls-Null, rolls-Column, rolls-Neg, rolls-Sum, rolls-Product, rolls-Call}
use Rattle.pt_ast.specs.Storable.{IsCounted, IsNotNegative, HasAtLeast, greatest}
use Rattle.pt_ast.specs.StorableExpr.{IsStorableNode, BeginsWithPlus, depth, depth_step}
use Rattle.pt_parse_expr.specs.Grammar.{Terms, Factors}

abbrev Nodes : Expr → Type 0
Nodes x = every-Expr IsStorableNode x

-- storable, and so deep at most
pub record Fits (most : ℕ) (x : Expr) : Type 0 where
  pub nodes : every-Expr IsStorableNode x
  pub shallow : depth x ≤ most

pub deeper : {few most : ℕ} {x : Expr} → few ≤ most → Fits few x → Fits most x
deeper more f = record { nodes = f.nodes; shallow = omega (arith, more, f.shallow) }

-- ---- parts

-- the expression of each part
abbrev pub AllFit : {A : Type 0} → ℕ → List (A × Expr) → Type 0
AllFit most [] = Unit {0}
AllFit most (p ∷ ps) = Fits most p.1 × AllFit most ps

-- each expression with the proof of its nodes
proved : {A : Type 0} (most : ℕ) (ps : List (A × Expr)) → AllFit most ps → List (A × ((x : Expr) × Nodes x))
proved most [] all = []
proved most (p ∷ ps) all = (p.0, (p.1, all.0.nodes)) ∷ proved most ps all.1

proved-are : {A : Type 0} (most : ℕ) (ps : List (A × Expr)) (all : AllFit most ps) → map (λ p. (p.0, p.1.0)) (proved most ps all) ≡ ps
unfolding proved
proved-are most [] all = refl
proved-are most (p ∷ ps) all = ap (λ qs. p ∷ qs) (proved-are most ps all.1)

-- how deep the deepest part nests
abbrev deepest : {A : Type 0} → List (A × Expr) → ℕ
deepest {A} ps = greatest (map (λ (p : A × ℕ). p.1) (map (λ (p : A × Expr). (p.0, depth p.1)) ps))

deepest-le : {A : Type 0} (most : ℕ) (ps : List (A × Expr)) → AllFit most ps → deepest ps ≤ most
deepest-le most [] all = omega arith
deepest-le most (p ∷ ps) all = omega (arith, all.0.shallow, deepest-le most ps all.1)

-- ---- nodes without parts

pub number-fits : {n : ℤ} → IsNotNegative n → Fits 1 (tree.Number n)
number-fits {n} is = record {
  nodes = subst Nodes (rolls-Number n) (every_made-Expr IsStorableNode (Expr-F.Number n) (Expr-F.Number n) refl is);
  shallow = omega (arith, ap depth (sym (rolls-Number n)) ∙ fold-roll-Expr ℕ depth_step (Expr-F.Number n));
}

pub text-fits : {bytes : List ℕ} → IsCounted bytes → Fits 1 (tree.Text bytes)
text-fits {bytes} is = record {
  nodes = subst Nodes (rolls-Text bytes) (every_made-Expr IsStorableNode (Expr-F.Text bytes) (Expr-F.Text bytes) refl is);
  shallow = omega (arith, ap depth (sym (rolls-Text bytes)) ∙ fold-roll-Expr ℕ depth_step (Expr-F.Text bytes));
}

pub hex-fits : {bytes : List ℕ} → IsCounted bytes → Fits 1 (tree.Hex bytes)
hex-fits {bytes} is = record {
  nodes = subst Nodes (rolls-Hex bytes) (every_made-Expr IsStorableNode (Expr-F.Hex bytes) (Expr-F.Hex bytes) refl is);
  shallow = omega (arith, ap depth (sym (rolls-Hex bytes)) ∙ fold-roll-Expr ℕ depth_step (Expr-F.Hex bytes));
}

pub date-fits : {day : Option ℤ} → Fits 1 (tree.Date day)
date-fits {day} = record {
  nodes = subst Nodes (rolls-Date day) (every_made-Expr IsStorableNode (Expr-F.Date day) (Expr-F.Date day) refl tt);
  shallow = omega (arith, ap depth (sym (rolls-Date day)) ∙ fold-roll-Expr ℕ depth_step (Expr-F.Date day));
}

pub null-fits : Fits 1 tree.Null
null-fits = record {
  nodes = subst Nodes rolls-Null (every_made-Expr IsStorableNode Expr-F.Null Expr-F.Null refl tt);
  shallow = omega (arith, ap depth (sym rolls-Null) ∙ fold-roll-Expr ℕ depth_step Expr-F.Null);
}

pub column-fits : {name : List ℕ} → Fits 1 (tree.Column name)
column-fits {name} = record {
  nodes = subst Nodes (rolls-Column name) (every_made-Expr IsStorableNode (Expr-F.Column name) (Expr-F.Column name) refl tt);
  shallow = omega (arith, ap depth (sym (rolls-Column name)) ∙ fold-roll-Expr ℕ depth_step (Expr-F.Column name));
}

-- ---- nodes with parts

pub neg-fits : {most : ℕ} {x : Expr} → Fits most x → Fits (suc most) (tree.Neg x)
neg-fits {x = x} f = record {
  nodes = subst Nodes (rolls-Neg x) (every_made-Expr IsStorableNode (Expr-F.Neg x) (Expr-F.Neg (x, f.nodes)) refl tt);
  shallow = omega (arith, f.shallow, ap depth (sym (rolls-Neg x)) ∙ fold-roll-Expr ℕ depth_step (Expr-F.Neg x));
}

pub call-fits : {most : ℕ} {f : Func} {x : Expr} → Fits most x → Fits (suc most) (tree.Call f x)
call-fits {f = f} {x = x} d = record {
  nodes = subst Nodes (rolls-Call f x) (every_made-Expr IsStorableNode (Expr-F.Call f x) (Expr-F.Call f (x, d.nodes)) refl tt);
  shallow = omega (arith, d.shallow, ap depth (sym (rolls-Call f x)) ∙ fold-roll-Expr ℕ depth_step (Expr-F.Call f x));
}

pub sum-fits : {most : ℕ} (ps : Terms) → HasAtLeast 2 ps × BeginsWithPlus ps → AllFit most ps → Fits (suc most) (tree.Sum ps)
sum-fits {most} ps is all = record {
  nodes = subst Nodes (rolls-Sum ps)
      (every_made-Expr IsStorableNode (Expr-F.Sum ps) (Expr-F.Sum (proved most ps all)) (ap Expr-F.Sum (proved-are most ps all)) is);
  shallow =
      let same : depth (tree.Sum ps) ≡ suc (deepest ps) = ap depth (sym (rolls-Sum ps)) ∙ fold-roll-Expr ℕ depth_step (Expr-F.Sum ps) in
      omega (arith, same, deepest-le most ps all);
}

pub product-fits : {most : ℕ} {x : Expr} (ps : Factors) → HasAtLeast 1 ps → Fits most x → AllFit most ps → Fits (suc most) (tree.Product x ps)
product-fits {most} {x} ps is f all = record {
  nodes = subst Nodes (rolls-Product x ps)
      (every_made-Expr IsStorableNode (Expr-F.Product x ps) (Expr-F.Product (x, f.nodes) (proved most ps all)) (ap (Expr-F.Product x) (proved-are most ps all)) is);
  shallow =
      let same : depth (tree.Product x ps) ≡ suc (max (depth x) (deepest ps)) =
      ap depth (sym (rolls-Product x ps)) ∙ fold-roll-Expr ℕ depth_step (Expr-F.Product x ps) in
      omega (arith, same, f.shallow, deepest-le most ps all);
}
