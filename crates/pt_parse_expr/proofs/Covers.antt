-- A reading against what the rules say of the same symbols.
use Rattle.std.proofs.Common.{◌≡◌, ◌<◌, ◌≤◌, Bool, false, List, [], ◌∷◌, length, Some, None, refl, sym, ap, subst, ◌∙◌, arith}
use Rattle.pt_parse_expr.specs.Grammar.{Symbols}
use Rattle.pt_parse_expr.specs.Reader.{Reading, Reader, mapped, many}
use Rattle.pt_parse_expr.proofs.Many.{many-none, many-more, many-shrinks}

-- Where the rules read x and leave rest, something is read, and it goes at least as far; and it is just that, where nothing comes
-- next that could go on.
pub data Covers {A : Type 0} (goes_on : Symbols → Bool) : Reading A → A → Symbols → Type 0 where
  covers : {p : A × Symbols} {x : A} {rest : Symbols} → length p.1 ≤ length rest → (goes_on rest ≡ false → (p.0 ≡ x) × (p.1 ≡ rest))
      → Covers goes_on (Some p) x rest

pair-same : {A B : Type 0} {x y : A} {u v : B} → x ≡ y → u ≡ v → ◌≡◌ {A = A × B} (x, u) (y, v)
pair-same {y} {u} e f = ap (λ x. (x, u)) e ∙ ap (λ u. (y, u)) f

module _ {A : Type 0} {goes_on : Symbols → Bool} {x : A} {rest : Symbols} where
  pub covers-far : {p : A × Symbols} → Covers goes_on (Some p) x rest → length p.1 ≤ length rest
  covers-far (covers far exact) = far

  pub covers-exact : {r : Reading A} → Covers goes_on r x rest → goes_on rest ≡ false → r ≡ Some (x, rest)
  covers-exact (covers far exact) ends = let e = exact ends in ap Some (pair-same e.0 e.1)

  pub exactly : {r : Reading A} → r ≡ Some (x, rest) → Covers goes_on r x rest
  exactly e = subst (λ r. Covers goes_on r x rest) (sym e) (covers (omega arith) (λ _. (refl, refl)))

  -- where more can go on, a reading is exact less often
  pub covers-wider : {wider : Symbols → Bool} {r : Reading A} → (wider rest ≡ false → goes_on rest ≡ false) → Covers goes_on r x rest
      → Covers wider r x rest
  covers-wider within (covers far exact) = covers far (λ ends. exact (within ends))

  pub covers-mapped : {B : Type 0} {r : Reading A} (f : A → B) → Covers goes_on r x rest → Covers goes_on (mapped f r) (f x) rest
  covers-mapped f (covers far exact) = covers far (λ ends. let e = exact ends in (ap f e.0, e.1))

-- ---- a part, and as many more as there are

abbrev pub with_many : {A B C : Type 0} → (A → List B → C) → Reader B → Reading A → Reading C
with_many f item (Some p) = let more = many item p.1 in Some (f p.0 more.0, more.1)
with_many f item None = None

module _ {A B C : Type 0} (f : A → List B → C) (item : Reader B) where
  -- no more
  pub continues-none : {small large : Symbols → Bool} {x : A} {rest : Symbols} {r : Reading A}
      → (large rest ≡ false → small rest ≡ false) → (large rest ≡ false → item rest ≡ None)
      → Covers small r x rest → Covers large (with_many f item r) (f x []) rest
  continues-none {x} {rest} within none (covers {p} far exact) = covers (omega (arith, far, many-shrinks item p.1)) (λ ends.
      let e = exact (within ends) in
      let m = ap (many item) e.1 ∙ many-none item rest (none ends) in
      (ap (λ x. f x (many item p.1).0) e.0 ∙ ap (λ m. f x m.0) m, ap (λ m. m.1) m))

  -- what was read of the next, as an item, goes in front of the others
  with_many-more : {B' : Type 0} {small : Symbols → Bool} {y : B'} {ts us : Symbols} {next : Reading B'} (x : A) (g : B' → B)
      → item ts ≡ mapped g next
      → Covers small next y us → length us < length ts → with_many f item (Some (x, ts)) ≡ with_many (λ y ys. f x (g y ∷ ys)) item next
  with_many-more {ts} x g is (covers {p} far exact) shorter =
      ap (λ m. Some (f x m.0, m.1)) (many-more item ts p.1 (g p.0) is (omega (arith, far, shorter)))

  -- one more: the part is read exactly, and the next with those after it
  pub continues-more : {B' : Type 0} {first small large : Symbols → Bool} {x : A} {y : B'} {z : C} {ts us rest : Symbols} {r : Reading A} {next : Reading B'}
      (g : B' → B) → Covers first r x ts → first ts ≡ false → item ts ≡ mapped g next → Covers small next y us → length us < length ts
      → Covers large (with_many (λ y ys. f x (g y ∷ ys)) item next) z rest → Covers large (with_many f item r) z rest
  continues-more {large} {x} {z} {rest} g part ends is c shorter more =
      subst (λ r. Covers large r z rest) (sym (ap (with_many f item) (covers-exact part ends) ∙ with_many-more x g is c shorter)) more
