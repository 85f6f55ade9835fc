-- Layers of an expression: induction over what is below a node, and what is said of each node, taken apart and put together.
use Rattle.std.proofs.Common.{◌≡◌, List, [], ◌∷◌, map, refl, ap, subst}
use Rattle.std.specs.List.{AllByRecursion}
use Rattle.pt_ast.specs.declared.tree.Expr.{Expr, every-Expr, every_held-Expr, every_made-Expr, map-Expr, out-Expr, roll-Expr}
use Rattle.pt_ast.specs.declared.tree.Expr.TheFolds.{ind-Expr}
use Rattle.pt_ast.specs.declared.tree.Expr.TheOpen.{Expr-F}

-- the expressions right below a node
abbrev pub kids : Expr-F Expr → List Expr
kids (Expr-F.Neg part) = part ∷ []
kids (Expr-F.Sum parts) = map (λ p. p.1) parts
kids (Expr-F.Product first parts) = first ∷ map (λ p. p.1) parts
kids (Expr-F.Call called part) = part ∷ []
kids _ = []

-- ---- a fact of all that are below

module _ (P : Expr → Type 0) where
  abbrev Held : Type 0
  Held = (x : Expr) × P x

  held_parts : {A : Type 0} (ps : List (A × Held)) → AllByRecursion P (map (λ (p : A × Expr). p.1) (map (λ (p : A × Held). (p.0, p.1.0)) ps))
  held_parts [] = tt
  held_parts (p ∷ ps) = (p.1.1, held_parts ps)

  held_kids : (y : Expr-F Held) → AllByRecursion P (kids (map-Expr Held Expr (λ e. e.0) y))
  held_kids (Expr-F.Number n) = tt
  held_kids (Expr-F.Text bytes) = tt
  held_kids (Expr-F.Hex bytes) = tt
  held_kids (Expr-F.Date day) = tt
  held_kids Expr-F.Null = tt
  held_kids (Expr-F.Column name) = tt
  held_kids (Expr-F.Neg part) = (part.1, tt)
  held_kids (Expr-F.Sum parts) = held_parts parts
  held_kids (Expr-F.Product first parts) = (first.1, held_parts parts)
  held_kids (Expr-F.Call called part) = (part.1, tt)

  lift_parts : {A : Type 0} (ps : List (A × Expr)) → AllByRecursion P (map (λ p. p.1) ps) → (y : List (A × Held)) × (map (λ (p : A × Held). (p.0, p.1.0)) y ≡ ps)
  lift_parts [] all = ([], refl)
  lift_parts (p ∷ ps) all = let more = lift_parts ps all.1 in ((p.0, (p.1, all.0)) ∷ more.0, ap (λ qs. p ∷ qs) more.1)

  lift : (layer : Expr-F Expr) → AllByRecursion P (kids layer) → (y : Expr-F Held) × (map-Expr Held Expr (λ e. e.0) y ≡ layer)
  lift (Expr-F.Number n) all = (Expr-F.Number n, refl)
  lift (Expr-F.Text bytes) all = (Expr-F.Text bytes, refl)
  lift (Expr-F.Hex bytes) all = (Expr-F.Hex bytes, refl)
  lift (Expr-F.Date day) all = (Expr-F.Date day, refl)
  lift Expr-F.Null all = (Expr-F.Null, refl)
  lift (Expr-F.Column name) all = (Expr-F.Column name, refl)
  lift (Expr-F.Neg part) all = (Expr-F.Neg (part, all.0), refl)
  lift (Expr-F.Sum parts) all = let more = lift_parts parts all in (Expr-F.Sum more.0, ap Expr-F.Sum more.1)
  lift (Expr-F.Product first parts) all = let more = lift_parts parts all.1 in (Expr-F.Product (first, all.0) more.0, ap (Expr-F.Product first) more.1)
  lift (Expr-F.Call called part) all = (Expr-F.Call called (part, all.0), refl)

  -- what holds of a node wherever it holds of all below it holds of each expression
  pub by_kids : ((layer : Expr-F Expr) → AllByRecursion P (kids layer) → P (roll-Expr layer)) → (x : Expr) → P x
  by_kids step = ind-Expr P (λ x y is. step x (subst (λ (layer : Expr-F Expr). AllByRecursion P (kids layer)) is (held_kids y)))

-- two facts of all, and what follows of both
pub all_both : (P Q R : Expr → Type 0) → ((x : Expr) → P x → Q x → R x) → (xs : List Expr) → AllByRecursion P xs → AllByRecursion Q xs → AllByRecursion R xs
all_both P Q R both [] ps qs = tt
all_both P Q R both (x ∷ xs) ps qs = (both x ps.0 qs.0, all_both P Q R both xs ps.1 qs.1)

-- ---- a fact of each node

module _ (Q : Expr-F Expr → Type 0) where
  pub every_kids : (x : Expr) → every-Expr Q x → AllByRecursion (every-Expr Q) (kids (out-Expr x))
  every_kids x each =
      let held = every_held-Expr Q x each in
      subst (λ (layer : Expr-F Expr). AllByRecursion (every-Expr Q) (kids layer)) held.1 (held_kids (every-Expr Q) held.0)

  pub every_roll : (layer : Expr-F Expr) → Q layer → AllByRecursion (every-Expr Q) (kids layer) → every-Expr Q (roll-Expr layer)
  every_roll layer here below = let lifted = lift (every-Expr Q) layer below in every_made-Expr Q layer lifted.0 lifted.1 here
