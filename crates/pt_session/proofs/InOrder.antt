-- Names that are sorted, each once, rise.
use Rattle.std.proofs.Common.{◌≡◌, ℕ, Bool, true, false, cond, List, [], ◌∷◌, refl, sym, ap, ◌∙◌, subst}
use Rattle.std.specs.Cmp.Lexicographic.{pointwise, slice_cmp}
use Rattle.std.specs.List.{IsDistinct, dedup_from}
use Rattle.std.specs.List.Sorted.{IsSorted, IsStrictlySortedBy}
use Rattle.std.specs.Ordering.{nat_cmp}
use Rattle.std.specs.Prelude.{nat_eq}
use Rattle.std.specs.Str.{bytes_eq}
use Rattle.std.proofs.lemmas.Cmp.{nat_list_cmp_total}
use Rattle.std.proofs.lemmas.List.Kept.{IsStrictlySortedBy-dedup}
use Rattle.std.proofs.lemmas.Map.Keys.{IsDistinct-head, IsDistinct-tail}
use Rattle.std.proofs.lemmas.Map.Text.{is_eq-slice_cmp}
use Rattle.std.proofs.lemmas.Slice.Eq.{bytes_eq-Decides}
use Rattle.pt_plain.proofs.Rising.{sorted_nil}

turned_test : (a b : List ℕ) → bytes_eq a b ≡ false → bytes_eq b a ≡ false
turned_test a b apart = go (bytes_eq b a) refl
  where
    go : (t : Bool) → bytes_eq b a ≡ t → t ≡ false
    go true e = let bad : true ≡ false = sym ((bytes_eq-Decides a b).1 (sym ((bytes_eq-Decides b a).0 e))) ∙ apart in cc
    go false e = refl

none_twice : (name : List ℕ) (names : List (List ℕ)) → IsDistinct (pointwise nat_eq) (name ∷ names) → dedup_from bytes_eq name names ≡ name ∷ names
none_twice name [] once = refl
none_twice name (other ∷ names) once =
    ap (λ t. cond t (dedup_from bytes_eq name names) (name ∷ dedup_from bytes_eq other names)) (turned_test name other (IsDistinct-head (pointwise nat_eq) name (other ∷ names) once).0)
    ∙ ap (λ (rest : List (List ℕ)). name ∷ rest) (none_twice other names (IsDistinct-tail (pointwise nat_eq) name (other ∷ names) once))

pub names_rise : (names : List (List ℕ)) → IsSorted (slice_cmp nat_cmp) names → IsDistinct (pointwise nat_eq) names → IsStrictlySortedBy (slice_cmp nat_cmp) names
names_rise [] sorted once = sorted_nil (slice_cmp nat_cmp)
names_rise (name ∷ names) sorted once =
    subst (IsStrictlySortedBy (slice_cmp nat_cmp)) (none_twice name names once)
    (IsStrictlySortedBy-dedup nat_list_cmp_total {E = bytes_eq} (λ a b. sym (is_eq-slice_cmp a b)) (name ∷ names) sorted)
