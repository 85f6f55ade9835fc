-- Marks that compare equal are one; what stands in an entry, and which entries share a mark.
use Rattle.std.proofs.Common.{◌≡◌, ℕ, zero, suc, ◌<◌, Bool, true, false, ◌&&◌, ◌||◌, ◌==◌, List, [], ◌∷◌, length, Option, Some, None, refl, ap, ap₂, ◌∙◌, subst, arith}
use Rattle.std.specs.Prelude.{Contains}
use Rattle.std.specs.List.{list_any}
use Rattle.std.specs.Option.{option_map_or}
use Rattle.std.specs.Bool.{Decides}
use Rattle.std.specs.Ordering.{eq_by_cmp}
use Rattle.std.specs.Cmp.{eq_by_cmp_equiv}
use Rattle.std.specs.Cmp.Lexicographic.{pointwise, pointwise_decides}
use Rattle.std.proofs.lemmas.Bool.Decides.{Decides-eqb}
use Rattle.pt_value.specs.Value.{value_cmp, value_cmp_total}
use Rattle.pt_value.specs.declared.value.Value.{Value}
use Rattle.pt_unique.specs.Book.{is_whole, mark_eq, stands, shares}
use Rattle.pt_unique.specs.Hashed.{same_value}
use Rattle.pt_unique.specs.Holders.{has}

abbrev pub Mark : Type 0
Mark = ℕ × List Value

pub value_decides : (a b : Value) → Decides (eq_by_cmp value_cmp a b) (a ≡ b)
value_decides a b = (same_value a b, λ e. subst (λ (v : Value). eq_by_cmp value_cmp a v ≡ true) e ((eq_by_cmp_equiv value_cmp_total).refl a))

pub cells_decide : (a b : List Value) → Decides (pointwise (eq_by_cmp value_cmp) a b) (a ≡ b)
cells_decide = pointwise_decides value_decides

-- # Truth values

pub both_left : (a b : Bool) → (a && b) ≡ true → a ≡ true
both_left true b h = refl
both_left false b h = h

pub both_right : (a b : Bool) → (a && b) ≡ true → b ≡ true
both_right true b h = h
both_right false b h = cc

pub or_right : (a b : Bool) → b ≡ true → (a || b) ≡ true
or_right true b h = refl
or_right false b h = h

pub never : (b : Bool) → (b ≡ true → ⊥) → b ≡ false
never true h = absurd (h refl)
never false h = refl

-- # Marks

pub mark_same : (a b : Mark) → mark_eq a b ≡ true → a ≡ b
mark_same a b h =
    ap₂ (λ (n : ℕ) (cells : List Value). (n, cells))
    ((Decides-eqb a.0 b.0).0 (both_left (a.0 == b.0) (pointwise (eq_by_cmp value_cmp) a.1 b.1) h))
    ((cells_decide a.1 b.1).0 (both_right (a.0 == b.0) (pointwise (eq_by_cmp value_cmp) a.1 b.1) h))

pub mark_refl : (a : Mark) → mark_eq a a ≡ true
mark_refl a = ap₂ (λ (x y : Bool). x && y) ((Decides-eqb a.0 a.0).1 refl) ((cells_decide a.1 a.1).1 refl)

-- # Lists

pub contains_more : {X : Type 0} (x y : X) (ys : List X) → Contains ys x → Contains (y ∷ ys) x
contains_more x y ys (k, below, is) = (suc k, omega arith, is)

pub contains_head : {X : Type 0} (y : X) (ys : List X) → Contains (y ∷ ys) y
contains_head y ys = (0, omega arith, refl)

pub any_found : {X : Type 0} (p : X → Bool) (xs : List X) → list_any p xs ≡ true → (x : X) × Contains xs x × (p x ≡ true)
any_found p [] h = absurd cc
any_found {X = X} p (y ∷ ys) h = go (p y) refl h (any_found p ys)
  where
    go : (b : Bool) → p y ≡ b → (b || list_any p ys) ≡ true → (list_any p ys ≡ true → (x : X) × Contains ys x × (p x ≡ true)) → (x : X) × Contains (y ∷ ys) x × (p x ≡ true)
    go true e more later = (y, contains_head y ys, e)
    go false e more later = let rest = later more in (rest.0, contains_more rest.0 y ys rest.1, rest.2)

pub any_here : {X : Type 0} (p : X → Bool) (xs : List X) (x : X) → Contains xs x → p x ≡ true → list_any p xs ≡ true
any_here p [] x there h = absurd (omega (arith, there.1))
any_here p (y ∷ ys) x (zero, below, is) h = ap (λ b. b || list_any p ys) (ap p is ∙ h)
any_here p (y ∷ ys) x (suc k, below, is) h =
    or_right (p y) (list_any p ys) (any_here p ys x (k, (let b : suc k < suc (length ys) = below in omega arith), is) h)

-- # Entries

-- what stands in an entry is one of its marks, without NULL
pub stands_found : (entry : List Mark) (mark : Mark) → stands entry mark ≡ true → Contains entry mark × (is_whole mark.1 ≡ true)
stands_found entry mark h =
    let found = any_found (λ (own : Mark). is_whole own.1 && mark_eq own mark) entry h in
    let same : found.0 ≡ mark = mark_same found.0 mark (both_right (is_whole found.0.1) (mark_eq found.0 mark) found.2) in
    (subst (λ (m : Mark). Contains entry m) same found.1, subst (λ (m : Mark). is_whole m.1 ≡ true) same (both_left (is_whole found.0.1) (mark_eq found.0 mark) found.2))

pub stands_here : (entry : List Mark) (mark : Mark) → Contains entry mark → is_whole mark.1 ≡ true → stands entry mark ≡ true
stands_here entry mark there whole =
    any_here (λ (own : Mark). is_whole own.1 && mark_eq own mark) entry mark there (ap₂ (λ (x y : Bool). x && y) whole (mark_refl mark))

-- where two entries agree, a mark of mine stands in the other
pub shares_found : (mine : List Mark) (theirs : Option (List Mark)) → option_map_or (shares mine) theirs false ≡ true → (mark : Mark) × Contains mine mark × (has theirs mark ≡ true)
shares_found mine None h = absurd cc
shares_found mine (Some theirs) h =
    let found = any_found (stands mine) theirs h in
    let own = stands_found mine found.0 found.2 in
    (found.0, own.0, stands_here theirs found.0 found.1 own.1)

pub shares_here : (mine : List Mark) (theirs : Option (List Mark)) (mark : Mark) → Contains mine mark → has theirs mark ≡ true → option_map_or (shares mine) theirs false ≡ true
shares_here mine None mark there h = absurd cc
shares_here mine (Some theirs) mark there h =
    let their = stands_found theirs mark h in
    any_here (stands mine) theirs mark their.0 (stands_here mine mark there their.1)
