-- The items of a tuple beside their kinds, one by one.
use Rattle.std.proofs.Common.{◌≡◌, ℕ, zero, suc, ◌+◌, ◌<◌, ◌≤◌, Bool, true, false, ◌||◌, List, [], ◌∷◌, length, drop, get_or, Some, None, refl, sym, ap, ◌∙◌, arith, add-one}
use Rattle.std.specs.List.{slice_get}
use Rattle.std.proofs.lemmas.List.{at_drop_all}
use Rattle.pt_value.specs.declared.value.Kind.{Kind}
use Rattle.pt_ast.specs.declared.table.Bound.{Bound}
use Rattle.pt_place.specs.Valid.{has_bound}

module _ (test : Kind → Bound → Bool) where
  pub has_step : (kinds : List Kind) (tuple : List Bound) (i : ℕ) (k : Kind) (bound : Bound) → i < length tuple → slice_get kinds i ≡ Some k → bound ≡ get_or tuple i bound
      → has_bound test (drop i kinds) (drop i tuple) ≡ (test k bound || has_bound test (drop (suc i) kinds) (drop (suc i) tuple))
  has_step kinds [] i k bound within here is = absurd (omega (arith, within))
  has_step [] (b ∷ bs) i k bound within here is = cc
  has_step (own ∷ kinds) (b ∷ bs) zero k bound within here is = let same : own ≡ k = cc in rw (same, is) refl
  has_step (own ∷ kinds) (b ∷ bs) (suc i) k bound within here is = has_step kinds bs i k bound (omega (arith, within)) here is

  has_none : (kinds : List Kind) (i : ℕ) (tuple : List Bound) → slice_get kinds i ≡ None → has_bound test (drop i kinds) tuple ≡ false
  has_none [] zero tuple none = refl
  has_none [] (suc i) tuple none = refl
  has_none (own ∷ kinds) zero tuple none = cc
  has_none (own ∷ kinds) (suc i) tuple none = has_none kinds i tuple none

  no_items : (kinds : List Kind) → has_bound test kinds [] ≡ false
  no_items [] = refl
  no_items (own ∷ kinds) = refl

  pub tuple_found : (kinds : List Kind) (tuple : List Bound) (i : ℕ) (k : Kind) (bound : Bound) (all : Bool) → i < length tuple → slice_get kinds i ≡ Some k → bound ≡ get_or tuple i bound
      → has_bound test (drop i kinds) (drop i tuple) ≡ all → test k bound ≡ true → true ≡ all
  tuple_found kinds tuple i k bound all within here is kept found =
      ap (λ b. b || has_bound test (drop (suc i) kinds) (drop (suc i) tuple)) (sym found) ∙ sym (has_step kinds tuple i k bound within here is) ∙ kept

  pub tuple_more : (kinds : List Kind) (tuple : List Bound) (i : ℕ) (k : Kind) (bound : Bound) (all : Bool) → i < length tuple → slice_get kinds i ≡ Some k → bound ≡ get_or tuple i bound
      → has_bound test (drop i kinds) (drop i tuple) ≡ all → test k bound ≡ false → has_bound test (drop (i + 1) kinds) (drop (i + 1) tuple) ≡ all
  tuple_more kinds tuple i k bound all within here is kept found =
      rw add-one (ap (λ b. b || has_bound test (drop (suc i) kinds) (drop (suc i) tuple)) (sym found) ∙ sym (has_step kinds tuple i k bound within here is) ∙ kept)

  pub tuple_short : (kinds : List Kind) (tuple : List Bound) (i : ℕ) (all : Bool) → slice_get kinds i ≡ None → has_bound test (drop i kinds) (drop i tuple) ≡ all → false ≡ all
  tuple_short kinds tuple i all none kept = sym (has_none kinds i (drop i tuple) none) ∙ kept

  pub tuple_end : (kinds : List Kind) (tuple : List Bound) (i : ℕ) (all : Bool) → length tuple ≤ i → has_bound test (drop i kinds) (drop i tuple) ≡ all → false ≡ all
  tuple_end kinds tuple i all past kept = sym (no_items (drop i kinds)) ∙ sym (at_drop_all (has_bound test (drop i kinds)) tuple i past) ∙ kept
