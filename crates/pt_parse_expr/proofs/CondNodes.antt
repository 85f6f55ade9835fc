-- How the nodes of a storable condition come together.
use Rattle.std.proofs.Common.{◌≡◌, List, [], ◌∷◌, map, Bool, refl, ap, subst}
use Rattle.std.specs.Prelude.{All}
use Rattle.std.specs.List.{AllByRecursion}
use Rattle.pt_ast.specs.declared.tree.Cmp.{Cmp}
use Rattle.pt_ast.specs.declared.tree.Expr.{Expr}
use Rattle.pt_ast.specs.declared.tree.Cond.{Cond, every_made-Cond}
use Rattle.pt_ast.specs.declared.tree.Cond.TheOpen.{Cond-F}
use Rattle.pt_ast.specs.declared.tree.Cond.TheVariants as cond
use Rattle.pt_ast.specs.declared.tree.Cond.TheVariants.{rolls-Or, rolls-And, rolls-Not, rolls-Compare, rolls-IsNull, rolls-In, rolls-Between}
use Rattle.pt_ast.specs.Storable.{HasAtLeast}
use Rattle.pt_ast.specs.StorableExpr.{IsStorableExpr}
use Rattle.pt_ast.specs.StorableCond.{IsStorableTest, IsStorableCond}

-- ---- parts

abbrev pub AreStorableConds : List Cond → Type 0
AreStorableConds cs = AllByRecursion (λ c. IsStorableCond c) cs

-- each condition with the proof of its nodes
proved : (cs : List Cond) → AreStorableConds cs → List ((c : Cond) × IsStorableCond c)
proved [] all = []
proved (c ∷ cs) all = (c, all.0) ∷ proved cs all.1

proved-are : (cs : List Cond) (all : AreStorableConds cs) → map (λ p. p.0) (proved cs all) ≡ cs
unfolding proved
proved-are [] all = refl
proved-are (c ∷ cs) all = ap (λ ds. c ∷ ds) (proved-are cs all.1)

-- ---- nodes

pub or-storable : (cs : List Cond) → HasAtLeast 2 cs → AreStorableConds cs → IsStorableCond (cond.Or cs)
or-storable cs is all =
    subst IsStorableCond (rolls-Or cs) (every_made-Cond IsStorableTest (Cond-F.Or cs) (Cond-F.Or (proved cs all)) (ap Cond-F.Or (proved-are cs all)) is)

pub and-storable : (cs : List Cond) → HasAtLeast 2 cs → AreStorableConds cs → IsStorableCond (cond.And cs)
and-storable cs is all =
    subst IsStorableCond (rolls-And cs) (every_made-Cond IsStorableTest (Cond-F.And cs) (Cond-F.And (proved cs all)) (ap Cond-F.And (proved-are cs all)) is)

pub not-storable : (c : Cond) → IsStorableCond c → IsStorableCond (cond.Not c)
not-storable c is = subst IsStorableCond (rolls-Not c) (every_made-Cond IsStorableTest (Cond-F.Not c) (Cond-F.Not (c, is)) refl tt)

pub compare-storable : (cmp : Cmp) (x y : Expr) → IsStorableExpr x → IsStorableExpr y → IsStorableCond (cond.Compare cmp x y)
compare-storable cmp x y p q =
    subst IsStorableCond (rolls-Compare cmp x y) (every_made-Cond IsStorableTest (Cond-F.Compare cmp x y) (Cond-F.Compare cmp x y) refl (p, q))

pub null-storable : (is_not : Bool) (x : Expr) → IsStorableExpr x → IsStorableCond (cond.IsNull is_not x)
null-storable is_not x p = subst IsStorableCond (rolls-IsNull is_not x) (every_made-Cond IsStorableTest (Cond-F.IsNull is_not x) (Cond-F.IsNull is_not x) refl p)

pub in-storable : (is_not : Bool) (x : Expr) (ys : List Expr) → HasAtLeast 1 ys → IsStorableExpr x → All (λ y. IsStorableExpr y) ys
    → IsStorableCond (cond.In is_not x ys)
in-storable is_not x ys is p q =
    subst IsStorableCond (rolls-In is_not x ys) (every_made-Cond IsStorableTest (Cond-F.In is_not x ys) (Cond-F.In is_not x ys) refl (p, is, q))

pub between-storable : (is_not : Bool) (x low high : Expr) → IsStorableExpr x → IsStorableExpr low → IsStorableExpr high
    → IsStorableCond (cond.Between is_not x low high)
between-storable is_not x low high p q r =
    subst IsStorableCond (rolls-Between is_not x low high)
    (every_made-Cond IsStorableTest (Cond-F.Between is_not x low high) (Cond-F.Between is_not x low high) refl (p, q, r))
