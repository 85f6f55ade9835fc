-- Lists that rise strictly by a key: what a search by halves finds, and changes at the place that it gives.
use Rattle.std.proofs.Common.{◌≡◌, ℕ, zero, suc, ◌+◌, ◌<◌, ◌≤◌, Bool, true, false, cond, not, List, [], ◌∷◌, length, get_or, set, map, Some, None, refl, sym, ap, ap₂, ◌∙◌, subst, arith, inl, inr, Ordering, Less, Greater}
use Rattle.std.specs.Prelude.{Ok, Err}
use Rattle.std.specs.List.{AllByRecursion, filter, find, insert, remove}
use Rattle.std.specs.List.Sorted.{IsBinarySearchResult, IsNonDecreasingBy, IsStrictlySortedBy}
use Rattle.std.specs.Ordering.{is_eq, is_lt, match_ordering, ordering_index, ordering_reverse}
use Rattle.std.proofs.lemmas.Bool.{cases_lt}
use Rattle.std.proofs.lemmas.List.{get_or-map, length-map}
use Rattle.std.proofs.lemmas.List.Sorted.{searchable_from_sorted}
use Rattle.std.proofs.lemmas.Map.Keys.{Less-from_sorted}
use Rattle.pt_db.specs.Ordered.{in_place}
use Rattle.pt_db.proofs.Keyed as keyed
use Rattle.pt_db.proofs.Keyed.{TellsApart}

module _ {X K : Type 0} (cmp : K → K → Ordering) (eq : K → K → Bool) (tells : TellsApart cmp eq) (key : X → K) where
  abbrev has : K → X → Bool
  has k x = eq (key x) k

  abbrev Rises : List X → Type 0
  Rises xs = IsStrictlySortedBy cmp (map key xs)

  -- the answer of a comparison decides the test
  tested : (a b : K) (o : Ordering) → cmp a b ≡ o → eq a b ≡ is_eq o
  tested a b o is = sym (tells.ties a b) ∙ ap is_eq is

  flipped : (a b : K) (o : Ordering) → cmp a b ≡ o → cmp b a ≡ ordering_reverse o
  flipped a b o e = tells.order.antisymm b a ∙ ap ordering_reverse e

  keys_rise : (xs : List X) (i j : ℕ) (d : X) → Rises xs → i < j → j < length xs → cmp (key (get_or xs i d)) (key (get_or xs j d)) ≡ Less
  keys_rise xs i j d up less within =
      ap₂ cmp (sym (get_or-map key xs i d (key d) (omega arith))) (sym (get_or-map key xs j d (key d) within))
      ∙ Less-from_sorted cmp (map key xs) i j (key d) up less (subst (λ n. j < n) (sym (length-map xs key)) within)

  searchable : (xs : List X) (k : K) → Rises xs → IsNonDecreasingBy (λ x. ordering_index (cmp (key x) k)) xs
  searchable xs k up =
      searchable_from_sorted tells.order key xs k
      (λ i d low within.
      let a = key (get_or xs i d) in
      let b = key (get_or xs (i + 1) d) in
      let less : cmp a b ≡ Less = keys_rise xs i (i + 1) d up (omega arith) within in
      ap is_lt (flipped a b Less less))

  -- what stands at a place of the key is what is looked up
  pub found_at : (xs : List X) (i : ℕ) (d : X) (k : K) → Rises xs → i < length xs → key (get_or xs i d) ≡ k → find (λ x. eq (key x) k) xs ≡ Some (get_or xs i d)
  found_at [] i d k up within named = absurd (omega (arith, within))
  found_at (x ∷ xs) zero d k up within named = ap (λ b. cond b (Some x) (find (has k) xs)) ((tells.same (key x) k).1 named)
  found_at (x ∷ xs) (suc i) d k up within named =
      ap (λ b. cond b (Some x) (find (has k) xs)) (tested (key x) k Less (subst (λ q. cmp (key x) q ≡ Less) named (keys_rise (x ∷ xs) 0 (suc i) d up (omega arith) within)))
      ∙ found_at xs i d k (keyed.tail_of cmp eq tells key x xs up) (omega (arith, within)) named

  none_found : (xs : List X) (k : K) → ((i : ℕ) (d : X) → i < length xs → eq (key (get_or xs i d)) k ≡ false) → find (λ x. eq (key x) k) xs ≡ None
  none_found [] k none = refl
  none_found (x ∷ xs) k none = ap (λ b. cond b (Some x) (find (has k) xs)) (none 0 x (omega arith)) ∙ none_found xs k (λ i d within. none (suc i) d (omega (arith, within)))

  module _ (xs : List X) (k : K) (up : Rises xs) (i : ℕ) where
    pub sought_key : IsBinarySearchResult (λ x. cmp (key x) k) xs (Ok i) → (d : X) → key (get_or xs i d) ≡ k
    sought_key result d = keyed.exact cmp eq tells key (key (get_or xs i d)) k (result d)

    pub sought : IsBinarySearchResult (λ x. cmp (key x) k) xs (Ok i) → i < length xs → (d : X) → find (λ x. eq (key x) k) xs ≡ Some (get_or xs i d)
    sought result within d = found_at xs i d k up within (sought_key result d)

    pub sought_none : IsBinarySearchResult (λ x. cmp (key x) k) xs (Err i) → find (λ x. eq (key x) k) xs ≡ None
    sought_none result =
        let parts = result (searchable xs k up) in
        none_found xs k (λ j d within. elim (cases_lt j i) [
          | inl before ↦ tested (key (get_or xs j d)) k Less (parts.0 j d (omega arith) before)
          | inr past ↦ tested (key (get_or xs j d)) k Greater (parts.1 j d past within)
        ])

  -- ---- an item more at the place where it would stand

  put_between : (x : X) (xs : List X) (i : ℕ) → i ≤ length xs → ((j : ℕ) (d : X) → j < i → cmp (key (get_or xs j d)) (key x) ≡ Less)
      → ((j : ℕ) (d : X) → i ≤ j → j < length xs → cmp (key (get_or xs j d)) (key x) ≡ Greater) → in_place cmp key x xs ≡ insert xs i x
  put_between x [] zero within below above = refl
  put_between x [] (suc i) within below above = absurd (omega (arith, within))
  put_between x (y ∷ ys) zero within below above =
      ap (λ o. match_ordering o (x ∷ y ∷ ys) (x ∷ ys) (y ∷ in_place cmp key x ys)) (flipped (key y) (key x) Greater (above 0 y (omega arith) (omega arith)))
  put_between x (y ∷ ys) (suc i) within below above =
      ap (λ o. match_ordering o (x ∷ y ∷ ys) (x ∷ ys) (y ∷ in_place cmp key x ys)) (flipped (key y) (key x) Less (below 0 y (omega arith)))
      ∙ ap (λ zs. y ∷ zs)
      (put_between x ys i (omega (arith, within)) (λ j d less. below (suc j) d (omega (arith, less))) (λ j d low less. above (suc j) d (omega (arith, low)) (omega (arith, less))))

  pub put_at : (x : X) (xs : List X) (i : ℕ) → Rises xs → i ≤ length xs → IsBinarySearchResult (λ y. cmp (key y) (key x)) xs (Err i) → in_place cmp key x xs ≡ insert xs i x
  put_at x xs i up within result =
      let parts = result (searchable xs (key x) up) in
      put_between x xs i within (λ j d less. parts.0 j d (omega arith) less) (λ j d low less. parts.1 j d low less)

  -- ---- an item less, or another one, at its place

  module _ (k : K) where
    all_kept : (xs : List X) → AllByRecursion (λ y. cmp k y ≡ Less) (map key xs) → filter (λ x. not (eq (key x) k)) xs ≡ xs
    all_kept [] above = refl
    all_kept (x ∷ xs) above =
        ap (λ b. cond (not b) (x ∷ filter (λ y. not (has k y)) xs) (filter (λ y. not (has k y)) xs)) (tested (key x) k Greater (flipped k (key x) Less above.0))
        ∙ ap (λ zs. x ∷ zs) (all_kept xs above.1)

    above_key : (x : X) (xs : List X) → Rises (x ∷ xs) → key x ≡ k → AllByRecursion (λ y. cmp k y ≡ Less) (map key xs)
    above_key x xs up named = subst (λ q. AllByRecursion (λ y. cmp q y ≡ Less) (map key xs)) named (keyed.head_of cmp eq tells key x xs up)

    first_other : (x : X) (xs : List X) (i : ℕ) (d : X) → Rises (x ∷ xs) → i < length xs → key (get_or xs i d) ≡ k → eq (key x) k ≡ false
    first_other x xs i d up within named =
        tested (key x) k Less (subst (λ q. cmp (key x) q ≡ Less) named (keys_rise (x ∷ xs) 0 (suc i) d up (omega arith) (omega (arith, within))))

    pub removed_at : (xs : List X) (i : ℕ) → Rises xs → i < length xs → ((d : X) → key (get_or xs i d) ≡ k) → filter (λ x. not (eq (key x) k)) xs ≡ remove xs i
    removed_at [] i up within named = absurd (omega (arith, within))
    removed_at (x ∷ xs) zero up within named =
        ap (λ b. cond (not b) (x ∷ filter (λ y. not (has k y)) xs) (filter (λ y. not (has k y)) xs)) ((tells.same (key x) k).1 (named x))
        ∙ all_kept xs (above_key x xs up (named x))
    removed_at (x ∷ xs) (suc i) up within named =
        ap (λ b. cond (not b) (x ∷ filter (λ y. not (has k y)) xs) (filter (λ y. not (has k y)) xs)) (first_other x xs i x up (omega (arith, within)) (named x))
        ∙ ap (λ zs. x ∷ zs) (removed_at xs i (keyed.tail_of cmp eq tells key x xs up) (omega (arith, within)) named)

    pub removed_none : (xs : List X) → find (λ x. eq (key x) k) xs ≡ None → filter (λ x. not (eq (key x) k)) xs ≡ xs
    removed_none [] none = refl
    removed_none (x ∷ xs) none = by_test (has k x) none (removed_none xs)
      where
        by_test : (t : Bool) → cond t (Some x) (find (has k) xs) ≡ None → (find (has k) xs ≡ None → filter (λ y. not (has k y)) xs ≡ xs)
            → cond (not t) (x ∷ filter (λ y. not (has k y)) xs) (filter (λ y. not (has k y)) xs) ≡ x ∷ xs
        by_test true e more = let bad : Some x ≡ None = e in cc
        by_test false e more = ap (λ zs. x ∷ zs) (more e)

    module _ (f : X → X) where
      all_same : (xs : List X) → AllByRecursion (λ y. cmp k y ≡ Less) (map key xs) → map (λ x. cond (eq (key x) k) (f x) x) xs ≡ xs
      all_same [] above = refl
      all_same (x ∷ xs) above =
          ap₂ (λ (b : Bool) (zs : List X). cond b (f x) x ∷ zs) (tested (key x) k Greater (flipped k (key x) Less above.0)) (all_same xs above.1)

      pub changed_at : (xs : List X) (i : ℕ) (d : X) → Rises xs → i < length xs → key (get_or xs i d) ≡ k → map (λ x. cond (eq (key x) k) (f x) x) xs ≡ set xs i (f (get_or xs i d))
      changed_at [] i d up within named = absurd (omega (arith, within))
      changed_at (x ∷ xs) zero d up within named =
          ap₂ (λ (b : Bool) (zs : List X). cond b (f x) x ∷ zs) ((tells.same (key x) k).1 named) (all_same xs (above_key x xs up named))
      changed_at (x ∷ xs) (suc i) d up within named =
          ap₂ (λ (b : Bool) (zs : List X). cond b (f x) x ∷ zs) (first_other x xs i d up (omega (arith, within)) named)
          (changed_at xs i d (keyed.tail_of cmp eq tells key x xs up) (omega (arith, within)) named)

      pub changed_none : (xs : List X) → find (λ x. eq (key x) k) xs ≡ None → map (λ x. cond (eq (key x) k) (f x) x) xs ≡ xs
      changed_none [] none = refl
      changed_none (x ∷ xs) none = by_test (has k x) none (changed_none xs)
        where
          by_test : (t : Bool) → cond t (Some x) (find (has k) xs) ≡ None → (find (has k) xs ≡ None → map (λ y. cond (has k y) (f y) y) xs ≡ xs)
              → cond t (f x) x ∷ map (λ y. cond (has k y) (f y) y) xs ≡ x ∷ xs
          by_test true e more = let bad : Some x ≡ None = e in cc
          by_test false e more = ap (λ zs. x ∷ zs) (more e)
