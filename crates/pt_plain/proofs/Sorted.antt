-- Lists that rise strictly: after a change to one entry, and told by their elements.
use Rattle.std.proofs.Common.{◌≡◌, ◌⊎◌, zero, suc, ◌<◌, Bool, true, false, cond, List, [], ◌∷◌, length, refl, sym, ap, ap₂, ◌∙◌, subst, arith, inl, inr, Ordering, Less, Equal, Greater}
use Rattle.std.specs.Prelude.{Contains}
use Rattle.std.specs.List.{AllByRecursion}
use Rattle.std.specs.List.Sorted.{IsStrictlySortedBy}
use Rattle.std.specs.Ordering.{ordering_reverse, match_ordering}
use Rattle.std.specs.Cmp.{IsTotalOrder}
use Rattle.std.specs.Map.{keys_of, remove_entry}
use Rattle.std.specs.BTreeMap.{insert_entry}
use Rattle.std.proofs.lemmas.List.Elements.{All-from_recursion, recursion_from_All, All-contains}
use Rattle.std.proofs.lemmas.Map.Keys.{sorted_head, sorted_tail}
use Rattle.std.proofs.lemmas.Map.Views.{All-keys-insert_entry, All-map-remove_entry}
use Rattle.pt_plain.proofs.Rising.{sorted_cons, sorted_nil}

module _ {K : Type 0} {cmp : K → K → Ordering} (order : IsTotalOrder cmp) where
  flip : (a b : K) → cmp a b ≡ Greater → cmp b a ≡ Less
  flip a b e = order.antisymm b a ∙ ap ordering_reverse e

  above_all : (a b : K) (ks : List K) → cmp a b ≡ Less → AllByRecursion (λ k. cmp b k ≡ Less) ks → AllByRecursion (λ k. cmp a k ≡ Less) ks
  above_all a b [] e h = tt
  above_all a b (k ∷ ks) e h = (order.trans a b k e h.0, above_all a b ks e h.1)

  pub rising_insert : {X : Type 0} (es : List (K × X)) (k : K) (v : X) → IsStrictlySortedBy cmp (keys_of es) → IsStrictlySortedBy cmp (keys_of (insert_entry cmp es k v))
  rising_insert [] k v rising = sorted_cons cmp k [] tt (sorted_nil cmp)
  rising_insert (e ∷ es) k v rising = go (cmp k e.0) refl (rising_insert es k v (sorted_tail cmp e.0 (keys_of es) rising))
    where
      go : (o : Ordering) → cmp k e.0 ≡ o → IsStrictlySortedBy cmp (keys_of (insert_entry cmp es k v))
          → IsStrictlySortedBy cmp (keys_of (match_ordering o ((k, v) ∷ e ∷ es) ((e.0, v) ∷ es) (e ∷ insert_entry cmp es k v)))
      go Less f rest = sorted_cons cmp k (e.0 ∷ keys_of es) (f, above_all k e.0 (keys_of es) f (sorted_head cmp e.0 (keys_of es) rising)) rising
      go Equal f rest = rising
      go Greater f rest =
          sorted_cons cmp e.0 (keys_of (insert_entry cmp es k v))
          (recursion_from_All (λ n. cmp e.0 n ≡ Less) (keys_of (insert_entry cmp es k v))
          (All-keys-insert_entry cmp k v (λ n. cmp e.0 n ≡ Less) es (All-from_recursion (λ n. cmp e.0 n ≡ Less) (keys_of es) (sorted_head cmp e.0 (keys_of es) rising)) (flip k e.0 f)))
          rest

  pub rising_remove : {X : Type 0} (test : K → Bool) (es : List (K × X)) → IsStrictlySortedBy cmp (keys_of es) → IsStrictlySortedBy cmp (keys_of (remove_entry test es))
  rising_remove test [] rising = rising
  rising_remove {X = X} test (e ∷ es) rising = go (test e.0) (rising_remove test es (sorted_tail cmp e.0 (keys_of es) rising))
    where
      go : (t : Bool) → IsStrictlySortedBy cmp (keys_of (remove_entry test es)) → IsStrictlySortedBy cmp (keys_of (cond t es (e ∷ remove_entry test es)))
      go true rest = sorted_tail cmp e.0 (keys_of es) rising
      go false rest =
          sorted_cons cmp e.0 (keys_of (remove_entry test es))
          (recursion_from_All (λ n. cmp e.0 n ≡ Less) (keys_of (remove_entry test es))
          (All-map-remove_entry test (λ (p : K × X). p.0) (λ n. cmp e.0 n ≡ Less) es (All-from_recursion (λ n. cmp e.0 n ≡ Less) (keys_of es) (sorted_head cmp e.0 (keys_of es) rising))))
          rest

  never_both : (a b : K) → cmp a b ≡ Less → cmp b a ≡ Less → ⊥
  never_both a b e f = let g : Less ≡ Greater = sym f ∙ order.antisymm b a ∙ ap ordering_reverse e in cc

  not_itself : (a : K) → cmp a a ≡ Less → ⊥
  not_itself a e = never_both a a e e

  contains_more : (x y : K) (ys : List K) → Contains ys x → Contains (y ∷ ys) x
  contains_more x y ys (k, below, is) = (suc k, omega arith, is)

  contains_head : (y : K) (ys : List K) → Contains (y ∷ ys) y
  contains_head y ys = (0, omega arith, refl)

  later_above : (x y : K) (ys : List K) → IsStrictlySortedBy cmp (y ∷ ys) → Contains ys x → cmp y x ≡ Less
  later_above x y ys rising there = All-contains (λ n. cmp y n ≡ Less) ys x (All-from_recursion (λ n. cmp y n ≡ Less) ys (sorted_head cmp y ys rising)) there

  no_element : (x : K) → Contains [] x → ⊥
  no_element x there = omega (arith, there.1)

  -- an element is the first one, or later
  first_or_later : (x y : K) (ys : List K) → Contains (y ∷ ys) x → (x ≡ y) ⊎ Contains ys x
  first_or_later x y ys (zero, below, is) = inl (sym is)
  first_or_later x y ys (suc k, below, is) = inr (k, (let b : suc k < suc (length ys) = below in omega arith), is)

  same_head : (x y : K) (xs ys : List K) → IsStrictlySortedBy cmp (x ∷ xs) → IsStrictlySortedBy cmp (y ∷ ys) → Contains (y ∷ ys) x → Contains (x ∷ xs) y → x ≡ y
  same_head x y xs ys xrising yrising to back =
      elim (first_or_later x y ys to) [
        | inl same ↦ same
        | inr later ↦ elim (first_or_later y x xs back) [
          | inl same ↦ sym same
          | inr also ↦ absurd (never_both y x (later_above x y ys yrising later) (later_above y x xs xrising also))
        ]
      ]

  -- what is among the later elements of one is among those of the other
  later_too : (k x y : K) (xs ys : List K) → IsStrictlySortedBy cmp (x ∷ xs) → x ≡ y → Contains xs k → Contains (y ∷ ys) k → Contains ys k
  later_too k x y xs ys rising same there to =
      elim (first_or_later k y ys to) [
        | inl first ↦ absurd (not_itself x (subst (λ n. cmp x n ≡ Less) (first ∙ sym same) (later_above k x xs rising there)))
        | inr later ↦ later
      ]

  -- Two such lists of the same elements are one.
  pub same_sorted : (xs ys : List K) → IsStrictlySortedBy cmp xs → IsStrictlySortedBy cmp ys → ((k : K) → Contains xs k → Contains ys k) → ((k : K) → Contains ys k → Contains xs k) → xs ≡ ys
  same_sorted [] [] xrising yrising to back = refl
  same_sorted [] (y ∷ ys) xrising yrising to back = absurd (no_element y (back y (contains_head y ys)))
  same_sorted (x ∷ xs) [] xrising yrising to back = absurd (no_element x (to x (contains_head x xs)))
  same_sorted (x ∷ xs) (y ∷ ys) xrising yrising to back =
      let same = same_head x y xs ys xrising yrising (to x (contains_head x xs)) (back y (contains_head y ys)) in
      ap₂ (λ z zs. z ∷ zs) same
      (same_sorted xs ys (sorted_tail cmp x xs xrising) (sorted_tail cmp y ys yrising)
      (λ k there. later_too k x y xs ys xrising same there (to k (contains_more k x xs there)))
      (λ k there. later_too k y x ys xs yrising (sym same) there (back k (contains_more k y ys there))))
