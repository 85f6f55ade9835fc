-- The items of a tuple as written beside their kinds, one by one.
use Rattle.std.proofs.Common.{◌≡◌, ℕ, zero, suc, ◌+◌, ◌<◌, ◌≤◌, Bool, true, false, ◌||◌, List, [], ◌∷◌, length, drop, get_or, Some, None, refl, sym, ap, ◌∙◌, arith, add-one}
use Rattle.std.specs.List.{list_any, slice_get}
use Rattle.pt_ast.specs.declared.written.BoundSpec.TheVariants as written
use Rattle.std.proofs.lemmas.List.{at_drop_all}
use Rattle.pt_value.specs.declared.value.Kind.{Kind}
use Rattle.pt_ast.specs.declared.written.BoundSpec.{BoundSpec}
use Rattle.pt_written.specs.Complete.{has_item, is_out_item, is_wide_item}

module _ (test : Kind → BoundSpec → Bool) where
  pub has_step : (kinds : List Kind) (tuple : List BoundSpec) (i : ℕ) (k : Kind) (bound : BoundSpec) → i < length tuple → slice_get kinds i ≡ Some k → bound ≡ get_or tuple i bound
      → has_item test (drop i kinds) (drop i tuple) ≡ (test k bound || has_item test (drop (suc i) kinds) (drop (suc i) tuple))
  has_step kinds [] i k bound within here is = absurd (omega (arith, within))
  has_step [] (b ∷ bs) i k bound within here is = cc
  has_step (own ∷ kinds) (b ∷ bs) zero k bound within here is = let same : own ≡ k = cc in rw (same, is) refl
  has_step (own ∷ kinds) (b ∷ bs) (suc i) k bound within here is = has_step kinds bs i k bound (omega (arith, within)) here is

  has_none : (kinds : List Kind) (i : ℕ) (tuple : List BoundSpec) → slice_get kinds i ≡ None → has_item test (drop i kinds) tuple ≡ false
  has_none [] zero tuple none = refl
  has_none [] (suc i) tuple none = refl
  has_none (own ∷ kinds) zero tuple none = cc
  has_none (own ∷ kinds) (suc i) tuple none = has_none kinds i tuple none

  no_items : (kinds : List Kind) → has_item test kinds [] ≡ false
  no_items [] = refl
  no_items (own ∷ kinds) = refl

  pub items_found : (kinds : List Kind) (tuple : List BoundSpec) (i : ℕ) (k : Kind) (bound : BoundSpec) (all : Bool) → i < length tuple → slice_get kinds i ≡ Some k → bound ≡ get_or tuple i bound
      → has_item test (drop i kinds) (drop i tuple) ≡ all → test k bound ≡ true → true ≡ all
  items_found kinds tuple i k bound all within here is kept found =
      ap (λ b. b || has_item test (drop (suc i) kinds) (drop (suc i) tuple)) (sym found) ∙ sym (has_step kinds tuple i k bound within here is) ∙ kept

  pub items_more : (kinds : List Kind) (tuple : List BoundSpec) (i : ℕ) (k : Kind) (bound : BoundSpec) (all : Bool) → i < length tuple → slice_get kinds i ≡ Some k → bound ≡ get_or tuple i bound
      → has_item test (drop i kinds) (drop i tuple) ≡ all → test k bound ≡ false → has_item test (drop (i + 1) kinds) (drop (i + 1) tuple) ≡ all
  items_more kinds tuple i k bound all within here is kept found =
      rw add-one (ap (λ b. b || has_item test (drop (suc i) kinds) (drop (suc i) tuple)) (sym found) ∙ sym (has_step kinds tuple i k bound within here is) ∙ kept)

  pub items_short : (kinds : List Kind) (tuple : List BoundSpec) (i : ℕ) (all : Bool) → slice_get kinds i ≡ None → has_item test (drop i kinds) (drop i tuple) ≡ all → false ≡ all
  items_short kinds tuple i all none kept = sym (has_none kinds i (drop i tuple) none) ∙ kept

  pub items_end : (kinds : List Kind) (tuple : List BoundSpec) (i : ℕ) (all : Bool) → length tuple ≤ i → has_item test (drop i kinds) (drop i tuple) ≡ all → false ≡ all
  items_end kinds tuple i all past kept = sym (no_items (drop i kinds)) ∙ sym (at_drop_all (has_item test (drop i kinds)) tuple i past) ∙ kept

-- ---- a tuple of one item

module _ (test : Kind → BoundSpec → Bool) where
  alone : (b : Bool) → (b || false) ≡ b
  alone true = refl
  alone false = refl

  pub one_item : (kinds : List Kind) (k : Kind) (bound : BoundSpec) → slice_get kinds 0 ≡ Some k → test k bound ≡ has_item test kinds (bound ∷ [])
  one_item [] k bound here = cc
  one_item (own ∷ kinds) k bound here = let is : own ≡ k = cc in rw is (sym (ap (λ b. test k bound || b) (no_items test kinds) ∙ alone (test k bound)))

  pub no_item : (kinds : List Kind) (bound : BoundSpec) → slice_get kinds 0 ≡ None → false ≡ has_item test kinds (bound ∷ [])
  no_item [] bound none = refl
  no_item (own ∷ kinds) bound none = cc

pub max_wide : (kinds : List Kind) → list_any (has_item is_wide_item kinds) ((written.Max ∷ []) ∷ []) ≡ false
max_wide [] = refl
max_wide (own ∷ kinds) = rw (no_items is_wide_item kinds) refl

pub max_out : (kinds : List Kind) → list_any (has_item is_out_item kinds) ((written.Max ∷ []) ∷ []) ≡ false
max_out [] = refl
max_out (own ∷ kinds) = rw (no_items is_out_item kinds) refl
