-- Layers of an expression: what is said of each node, taken apart and put together.
use Rattle.std.proofs.Common.{◌≡◌, ℕ, suc, ◌≤◌, List, [], ◌∷◌, map, refl, arith, ap, subst}
use Rattle.std.specs.List.{AllByRecursion}
use Rattle.pt_ast.specs.declared.tree.Expr.{Expr, every-Expr, every_held-Expr, every_made-Expr, fold_out-Expr, fold-roll-Expr, map-Expr, out-Expr, roll-Expr}
use Rattle.pt_ast.specs.declared.tree.Expr.TheOpen.{Expr-F}
use Rattle.pt_ast.specs.Storable.{greatest}
use Rattle.pt_ast.specs.StorableExpr.{depth, depth_step}

-- the expressions right below a node
abbrev pub kids : Expr-F Expr → List Expr
kids (Expr-F.Neg part) = part ∷ []
kids (Expr-F.Sum parts) = map (λ p. p.1) parts
kids (Expr-F.Product first parts) = first ∷ map (λ p. p.1) parts
kids (Expr-F.Call called part) = part ∷ []
kids _ = []

-- ---- a fact of all that are below

module _ (P : Expr → Type 0) where
  abbrev Held : Type 0
  Held = (x : Expr) × P x

  held_parts : {A : Type 0} (ps : List (A × Held)) → AllByRecursion P (map (λ (p : A × Expr). p.1) (map (λ (p : A × Held). (p.0, p.1.0)) ps))
  held_parts [] = tt
  held_parts (p ∷ ps) = (p.1.1, held_parts ps)

  pub held_kids : (y : Expr-F Held) → AllByRecursion P (kids (map-Expr Held Expr (λ e. e.0) y))
  held_kids (Expr-F.Number n) = tt
  held_kids (Expr-F.Text bytes) = tt
  held_kids (Expr-F.Hex bytes) = tt
  held_kids (Expr-F.Date day) = tt
  held_kids Expr-F.Null = tt
  held_kids (Expr-F.Column name) = tt
  held_kids (Expr-F.Neg part) = (part.1, tt)
  held_kids (Expr-F.Sum parts) = held_parts parts
  held_kids (Expr-F.Product first parts) = (first.1, held_parts parts)
  held_kids (Expr-F.Call called part) = (part.1, tt)

  lift_parts : {A : Type 0} (ps : List (A × Expr)) → AllByRecursion P (map (λ p. p.1) ps) → (y : List (A × Held)) × (map (λ (p : A × Held). (p.0, p.1.0)) y ≡ ps)
  lift_parts [] all = ([], refl)
  lift_parts (p ∷ ps) all = let more = lift_parts ps all.1 in ((p.0, (p.1, all.0)) ∷ more.0, ap (λ qs. p ∷ qs) more.1)

  pub lift : (layer : Expr-F Expr) → AllByRecursion P (kids layer) → (y : Expr-F Held) × (map-Expr Held Expr (λ e. e.0) y ≡ layer)
  lift (Expr-F.Number n) all = (Expr-F.Number n, refl)
  lift (Expr-F.Text bytes) all = (Expr-F.Text bytes, refl)
  lift (Expr-F.Hex bytes) all = (Expr-F.Hex bytes, refl)
  lift (Expr-F.Date day) all = (Expr-F.Date day, refl)
  lift Expr-F.Null all = (Expr-F.Null, refl)
  lift (Expr-F.Column name) all = (Expr-F.Column name, refl)
  lift (Expr-F.Neg part) all = (Expr-F.Neg (part, all.0), refl)
  lift (Expr-F.Sum parts) all = let more = lift_parts parts all in (Expr-F.Sum more.0, ap Expr-F.Sum more.1)
  lift (Expr-F.Product first parts) all = let more = lift_parts parts all.1 in (Expr-F.Product (first, all.0) more.0, ap (Expr-F.Product first) more.1)
  lift (Expr-F.Call called part) all = (Expr-F.Call called (part, all.0), refl)

-- ---- a fact of each node

module _ (Q : Expr-F Expr → Type 0) where
  pub every_kids : (x : Expr) → every-Expr Q x → AllByRecursion (every-Expr Q) (kids (out-Expr x))
  every_kids x each =
      let held = every_held-Expr Q x each in
      subst (λ (layer : Expr-F Expr). AllByRecursion (every-Expr Q) (kids layer)) held.1 (held_kids (every-Expr Q) held.0)

  pub every_roll : (layer : Expr-F Expr) → Q layer → AllByRecursion (every-Expr Q) (kids layer) → every-Expr Q (roll-Expr layer)
  every_roll layer here below = let lifted = lift (every-Expr Q) layer below in every_made-Expr Q layer lifted.0 lifted.1 here

-- ---- depth

abbrev Shallow : ℕ → Expr → Type 0
Shallow most x = depth x ≤ most

abbrev deepest : {A : Type 0} → List (A × Expr) → ℕ
deepest {A} ps = greatest (map (λ (p : A × ℕ). p.1) (map (λ (p : A × Expr). (p.0, depth p.1)) ps))

parts_deep : {A : Type 0} (most : ℕ) (ps : List (A × Expr)) → AllByRecursion (Shallow most) (map (λ p. p.1) ps) → deepest ps ≤ most
parts_deep most [] all = omega arith
parts_deep most (p ∷ ps) all = omega (arith, all.0, parts_deep most ps all.1)

deep_parts : {A : Type 0} (most : ℕ) (ps : List (A × Expr)) → deepest ps ≤ most → AllByRecursion (Shallow most) (map (λ p. p.1) ps)
deep_parts most [] le = tt
deep_parts most (p ∷ ps) le = (omega arith, deep_parts most ps (omega arith))

step_deep : (most : ℕ) (layer : Expr-F Expr) → AllByRecursion (Shallow most) (kids layer) → depth_step (map-Expr Expr ℕ depth layer) ≤ suc most
step_deep most (Expr-F.Number n) all = omega arith
step_deep most (Expr-F.Text bytes) all = omega arith
step_deep most (Expr-F.Hex bytes) all = omega arith
step_deep most (Expr-F.Date day) all = omega arith
step_deep most Expr-F.Null all = omega arith
step_deep most (Expr-F.Column name) all = omega arith
step_deep most (Expr-F.Neg part) all = omega (arith, all.0)
step_deep most (Expr-F.Sum parts) all = omega (arith, parts_deep most parts all)
step_deep most (Expr-F.Product first parts) all = omega (arith, all.0, parts_deep most parts all.1)
step_deep most (Expr-F.Call called part) all = omega (arith, all.0)

deep_step : (most : ℕ) (layer : Expr-F Expr) → depth_step (map-Expr Expr ℕ depth layer) ≤ suc most → AllByRecursion (Shallow most) (kids layer)
deep_step most (Expr-F.Number n) le = tt
deep_step most (Expr-F.Text bytes) le = tt
deep_step most (Expr-F.Hex bytes) le = tt
deep_step most (Expr-F.Date day) le = tt
deep_step most Expr-F.Null le = tt
deep_step most (Expr-F.Column name) le = tt
deep_step most (Expr-F.Neg part) le = (omega arith, tt)
deep_step most (Expr-F.Sum parts) le = deep_parts most parts (omega arith)
deep_step most (Expr-F.Product first parts) le = (omega arith, deep_parts most parts (omega arith))
deep_step most (Expr-F.Call called part) le = (omega arith, tt)

pub depth_kids : (most : ℕ) (x : Expr) → depth x ≤ suc most → AllByRecursion (λ y. depth y ≤ most) (kids (out-Expr x))
depth_kids most x le = deep_step most (out-Expr x) (omega (arith, le, fold_out-Expr ℕ depth_step x))

pub depth_roll : (most : ℕ) (layer : Expr-F Expr) → AllByRecursion (λ y. depth y ≤ most) (kids layer) → depth (roll-Expr layer) ≤ suc most
depth_roll most layer all = omega (arith, step_deep most layer all, fold-roll-Expr ℕ depth_step layer)
