-- A list in order is the same wherever an element stood that ties with none.
use Rattle.std.proofs.Common.{◌≡◌, Bool, true, false, cond, List, [], ◌∷◌, ◌++◌, refl, sym, ap, ◌∙◌, Ordering, Less, Equal, Greater, is_gt, is_eq, true≢false}
use Rattle.std.specs.Cmp.{IsTotalOrder}
use Rattle.std.specs.List.{All}
use Rattle.std.specs.Ordering.{ordering_reverse}
use Rattle.std.proofs.lemmas.Cmp.{upto}
use Rattle.std.proofs.lemmas.List.Elements.{All-head, All-tail}
use Rattle.pt_checks.specs.Ordered.{in_order, put_in}

module _ {A : Type 0} (cmp : A → A → Ordering) (total : IsTotalOrder cmp) where
  turned : (x y : A) (p q : List A) → is_eq (cmp x y) ≡ false → cond (is_gt (cmp x y)) p q ≡ cond (is_gt (cmp y x)) q p
  turned x y p q apart = by (cmp x y) apart ∙ ap (λ o. cond (is_gt o) q p) (sym (total.antisymm y x))
    where
      by : (o : Ordering) → is_eq o ≡ false → cond (is_gt o) p q ≡ cond (is_gt (ordering_reverse o)) q p
      by Less e = refl
      by Equal e = cc
      by Greater e = refl

  above : (x y z : A) → is_gt (cmp x z) ≡ true → is_gt (cmp y z) ≡ false → is_gt (cmp x y) ≡ true
  above x y z high low = by (is_gt (cmp x y)) refl
    where
      by : (b : Bool) → is_gt (cmp x y) ≡ b → b ≡ true
      by true e = refl
      by false e = absurd (true≢false (sym high ∙ upto total x y z e low))

  -- two that don't tie are put in either one first
  swapped : (x y : A) (zs : List A) → is_eq (cmp x y) ≡ false → is_eq (cmp y x) ≡ false → put_in cmp x (put_in cmp y zs) ≡ put_in cmp y (put_in cmp x zs)
  swapped x y [] apart other = sym (turned y x (x ∷ y ∷ []) (y ∷ x ∷ []) other)
  swapped x y (z ∷ zs) apart other = by (is_gt (cmp x z)) (is_gt (cmp y z)) refl refl (swapped x y zs apart other)
    where
      by : (a b : Bool) → is_gt (cmp x z) ≡ a → is_gt (cmp y z) ≡ b → put_in cmp x (put_in cmp y zs) ≡ put_in cmp y (put_in cmp x zs)
          → put_in cmp x (cond b (z ∷ put_in cmp y zs) (y ∷ z ∷ zs)) ≡ put_in cmp y (cond a (z ∷ put_in cmp x zs) (x ∷ z ∷ zs))
      by true true e f rest = rw (e, f, rest) refl
      by true false e f rest = let high = above x y z e f in rw (high, e, f) refl
      by false true e f rest = let high = above y x z f e in rw (e, high, f) refl
      by false false e f rest = rw (e, f) (turned x y (y ∷ x ∷ z ∷ zs) (x ∷ y ∷ z ∷ zs) apart)

  -- An element that ties with none of those before it may be put in last.
  pub put_last : (x : A) (before some others : List A) → All (λ y. (is_eq (cmp y x) ≡ false) × (is_eq (cmp x y) ≡ false)) before → in_order cmp some ≡ put_in cmp x (in_order cmp others)
      → in_order cmp (before ++ some) ≡ put_in cmp x (in_order cmp (before ++ others))
  put_last x [] some others apart rest = rest
  put_last x (y ∷ ys) some others apart rest =
      let here = All-head (λ z. (is_eq (cmp z x) ≡ false) × (is_eq (cmp x z) ≡ false)) y ys apart in
      ap (put_in cmp y) (put_last x ys some others (All-tail (λ z. (is_eq (cmp z x) ≡ false) × (is_eq (cmp x z) ≡ false)) y ys apart) rest)
      ∙ swapped y x (in_order cmp (ys ++ others)) here.0 here.1
