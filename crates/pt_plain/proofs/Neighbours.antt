-- The test of each two neighbours of a list is the test that it rises by a key.
use Rattle.std.proofs.Common.{◌≡◌, ℕ, ◌+◌, ◌<◌, Bool, true, false, List, [], ◌∷◌, length, get_or, map, refl, sym, ap, ap₂, ◌∙◌, subst, arith, IsTrue, Ordering, Less}
use Rattle.std.specs.List.{IsAllAdjacentAnswer}
use Rattle.std.specs.Cmp.Lexicographic.{slice_cmp, nat_list_cmp_total}
use Rattle.std.specs.Ordering.{nat_cmp, is_lt}
use Rattle.std.specs.List.Sorted.{IsStrictlySortedBy}
use Rattle.std.proofs.lemmas.List.{length-map, get_or-map}
use Rattle.std.proofs.lemmas.Map.Keys.{Less-from_sorted, sorted_from_all_adjacent}

less_from_is_lt : (o : Ordering) → true ≡ is_lt o → o ≡ Less
less_from_is_lt o e = grind arith

module _ {X : Type 0} (key : X → List ℕ) where
  element : (xs : List X) → 0 < length xs → X
  element [] some = absurd (omega arith)
  element (x ∷ xs) some = x

  neighbours : (xs : List X) (i j : ℕ) (d : X) → i < length xs → j < length xs
      → slice_cmp nat_cmp (get_or (map key xs) i []) (get_or (map key xs) j []) ≡ slice_cmp nat_cmp (key (get_or xs i d)) (key (get_or xs j d))
  neighbours xs i j d at_i at_j = ap₂ (slice_cmp nat_cmp) (get_or-map key xs i d [] at_i) (get_or-map key xs j d [] at_j)

  pub rising_by : (xs : List X) (r : Bool) → IsAllAdjacentAnswer (λ x y b. b ≡ is_lt (slice_cmp nat_cmp (key x) (key y))) xs r
      → (IsTrue r → IsStrictlySortedBy (slice_cmp nat_cmp) (map key xs)) × (IsStrictlySortedBy (slice_cmp nat_cmp) (map key xs) → IsTrue r)
  rising_by xs true each = (
    (λ _. sorted_from_all_adjacent nat_list_cmp_total (map key xs) []
        (λ k below. let l : k + 1 < length xs = subst (λ n. k + 1 < n) (length-map xs key) below in
        let d : X = element xs (omega arith) in
        neighbours xs k (k + 1) d (omega arith) l ∙ less_from_is_lt (slice_cmp nat_cmp (key (get_or xs k d)) (key (get_or xs (k + 1) d))) (each k d l))),
    λ rising. refl,
  )
  rising_by xs false some = (
    (λ bad. let e : false ≡ true = bad in cc),
    λ rising.
        let d : X = element xs (omega (arith, some.1)) in
        let less : slice_cmp nat_cmp (key (get_or xs some.0 d)) (key (get_or xs (some.0 + 1) d)) ≡ Less =
        (sym (neighbours xs some.0 (some.0 + 1) d (omega (arith, some.1)) some.1)
        ∙ Less-from_sorted (slice_cmp nat_cmp) (map key xs) some.0 (some.0 + 1) [] rising (omega arith) (subst (λ n. some.0 + 1 < n) (sym (length-map xs key)) some.1)) in
        some.2 d ∙ ap is_lt less,
  )
