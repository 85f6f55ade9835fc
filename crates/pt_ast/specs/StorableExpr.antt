-- Storable expressions.
use Rattle.std.specs.Prelude.{◌≡◌, ℕ, suc, ◌≤◌, Bool, false, List, [], ◌∷◌, map, max}
use Rattle.pt_ast.specs.declared.tree.Expr.{Expr, every-Expr, fold-Expr}
use Rattle.pt_ast.specs.declared.tree.Expr.TheOpen.{Expr-F}
use Rattle.pt_ast.specs.Storable.{HasAtLeast, IsCounted, IsNotNegative, greatest}

-- how deep a node nests, from how deep its parts do
abbrev pub depth_step : Expr-F ℕ → ℕ
depth_step (Expr-F.Number n) = 1
depth_step (Expr-F.Text bytes) = 1
depth_step (Expr-F.Hex bytes) = 1
depth_step (Expr-F.Date day) = 1
depth_step Expr-F.Null = 1
depth_step (Expr-F.Column name) = 1
depth_step (Expr-F.Neg part) = suc part
depth_step (Expr-F.Sum parts) = suc (greatest (map (λ part. part.1) parts))
depth_step (Expr-F.Product first parts) = suc (max first (greatest (map (λ part. part.1) parts)))
depth_step (Expr-F.Call func part) = suc part

-- how deep an expression nests: 1 where it has no parts
abbrev pub depth : Expr → ℕ
depth = fold-Expr ℕ depth_step

-- the first part of a sum is added
abbrev pub BeginsWithPlus : List (Bool × Expr) → Type 0
BeginsWithPlus [] = Unit {0}
BeginsWithPlus (part ∷ parts) = part.0 ≡ false

-- One node: a number isn't negative, a sum has two parts at least and begins with plus, a product has an operator.
abbrev pub IsStorableNode : Expr-F Expr → Type 0
IsStorableNode (Expr-F.Number n) = IsNotNegative n
IsStorableNode (Expr-F.Text bytes) = IsCounted bytes
IsStorableNode (Expr-F.Hex bytes) = IsCounted bytes
IsStorableNode (Expr-F.Date day) = Unit {0}
IsStorableNode Expr-F.Null = Unit {0}
IsStorableNode (Expr-F.Column name) = Unit {0}
IsStorableNode (Expr-F.Neg part) = Unit {0}
IsStorableNode (Expr-F.Sum parts) = HasAtLeast 2 parts × BeginsWithPlus parts
IsStorableNode (Expr-F.Product first parts) = HasAtLeast 1 parts
IsStorableNode (Expr-F.Call func part) = Unit {0}

-- Each node is so, and the whole nests at most 300 deep.
pub record IsStorableExpr (expr : Expr) : Type 0 where
  pub nodes : every-Expr IsStorableNode expr
  pub depth : depth expr ≤ 300
