-- A list in which the one element that passes a test is changed.
use Rattle.std.proofs.Common.{◌≡◌, ◌≢◌, ℕ, zero, suc, ◌<◌, Bool, true, false, cond, List, [], ◌∷◌, map, length, set, get_or, refl, arith}

module _ {X : Type 0} (p : X → Bool) (f : X → X) where
  abbrev changed : X → X
  changed x = cond (p x) (f x) x

  pub none_changed : (xs : List X) → ((k : ℕ) (e : X) → k < length xs → p (get_or xs k e) ≡ false) → map (λ x. cond (p x) (f x) x) xs ≡ xs
  none_changed [] others = refl
  none_changed (x ∷ xs) others =
      let same : map changed xs ≡ xs = none_changed xs (λ k e below. others (suc k) e (omega arith)) in
      let first : p x ≡ false = others 0 x (omega arith) in
      rw (first, same) refl

  pub one_changed : (xs : List X) (i : ℕ) (d : X) → i < length xs → p (get_or xs i d) ≡ true
      → ((k : ℕ) (e : X) → k < length xs → k ≢ i → p (get_or xs k e) ≡ false)
      → map (λ x. cond (p x) (f x) x) xs ≡ set xs i (f (get_or xs i d))
  one_changed [] i d within passes others = absurd (omega arith)
  one_changed (x ∷ xs) zero d within passes others =
      let same : map changed xs ≡ xs = none_changed xs (λ k e below. others (suc k) e (omega arith) (omega arith)) in
      rw (passes, same) refl
  one_changed (x ∷ xs) (suc i) d within passes others =
      let rest : map changed xs ≡ set xs i (f (get_or xs i d)) = one_changed xs i d (omega arith) passes (λ k e below apart. others (suc k) e (omega arith) (omega arith)) in
      let first : p x ≡ false = others 0 x (omega arith) (omega arith) in
      rw (first, rest) refl
