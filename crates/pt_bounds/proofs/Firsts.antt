-- The first place that passes a test: among numbers, and at a partition point.
use Rattle.std.proofs.Common.{◌≡◌, ℕ, ◌<◌, ◌≤◌, Bool, true, false, not, List, [], ◌∷◌, length, get_or, refl, sym, ap, ◌∙◌, arith, zero-add, inl, inr, Some, None}
use Rattle.std.specs.List.{position, position_or_len, range_with_len}
use Rattle.std.specs.List.Sorted.{IsPartitionPoint}
use Rattle.std.proofs.lemmas.Bool.{cases_lt, cond_below, cond_above, not-true, not-false}
use Rattle.std.proofs.lemmas.List.Sums.{position_or_len_is, fails_before_first}
use Rattle.std.proofs.lemmas.List.FromFn.{length-range_with_len, get_or-range_with_len}

here : {X : Type 0} (p : X → Bool) (xs : List X) (i : ℕ) → position_or_len p xs ≡ i → i < length xs → position p xs ≡ Some i
here p xs i e within = sym (cond_below (position_or_len p xs) (length xs) (Some (position_or_len p xs)) None (omega (arith, e, within))) ∙ ap Some e

nowhere : {X : Type 0} (p : X → Bool) (xs : List X) → length xs ≤ position_or_len p xs → position p xs ≡ None
nowhere p xs past = sym (cond_above (position_or_len p xs) (length xs) (Some (position_or_len p xs)) None None past refl)

number_at : (p : ℕ → Bool) (n k : ℕ) → k < n → p (get_or (range_with_len 0 n) k 0) ≡ p k
number_at p n k within = ap p (get_or-range_with_len 0 n k 0 within ∙ zero-add k)

pub first_at : (p : ℕ → Bool) (n i : ℕ) → i < n → ((k : ℕ) → k < i → p k ≡ false) → p i ≡ true → position p (range_with_len 0 n) ≡ Some i
first_at p n i within before passes =
    let len = length-range_with_len 0 n in
    let e = position_or_len_is p (range_with_len 0 n) i 0 (omega (arith, len, within)) (λ k less. number_at p n k (omega (arith, less, within)) ∙ before k less) (λ less. number_at p n i within ∙ passes) in
    here p (range_with_len 0 n) i e (omega (arith, len, within))

pub first_none : (p : ℕ → Bool) (n : ℕ) → ((k : ℕ) → k < n → p k ≡ false) → position p (range_with_len 0 n) ≡ None
first_none p n before =
    let len = length-range_with_len 0 n in
    let e = position_or_len_is p (range_with_len 0 n) n 0 (omega (arith, len)) (λ k less. number_at p n k less ∙ before k less) (λ less. absurd (omega (arith, len, less))) in
    nowhere p (range_with_len 0 n) (omega (arith, len, e))

pub none_before : (p : ℕ → Bool) (n : ℕ) → position p (range_with_len 0 n) ≡ None → (k : ℕ) → k < n → p k ≡ false
none_before p n none k within =
    let xs = range_with_len 0 n in
    let len = length-range_with_len 0 n in
    elim (cases_lt (position_or_len p xs) (length xs)) [
      | inl less ↦ let e : Some (position_or_len p xs) ≡ None = sym (here p xs (position_or_len p xs) refl less) ∙ none in cc
      | inr more ↦ sym (number_at p n k within) ∙ fails_before_first p xs k 0 (omega (arith, len, within, more))
    ]

pub point_some : {X : Type 0} (p : X → Bool) (xs : List X) (r : ℕ) → r < length xs → IsPartitionPoint (λ y. not (p y) ≡ true) (λ y. not (p y) ≡ false) xs r → position p xs ≡ Some r
point_some p [] r within point = absurd (omega (arith, within))
point_some p (x ∷ xs) r within point =
    here p (x ∷ xs) r (position_or_len_is p (x ∷ xs) r x (omega (arith, within)) (λ k less. not-true _ (point.0 k x (omega arith) less)) (λ less. not-false _ (point.1 r x (omega arith) less))) within

pub point_none : {X : Type 0} (p : X → Bool) (xs : List X) (r : ℕ) → length xs ≤ r → r ≤ length xs → IsPartitionPoint (λ y. not (p y) ≡ true) (λ y. not (p y) ≡ false) xs r → position p xs ≡ None
point_none p [] r past bound point = refl
point_none p (x ∷ xs) r past bound point =
    let e = position_or_len_is p (x ∷ xs) r x bound (λ k less. not-true _ (point.0 k x (omega arith) less)) (λ less. absurd (omega (arith, less, past))) in
    nowhere p (x ∷ xs) (omega (arith, e, past))
