-- Lists that rise strictly by a key, and one more element in its place.
use Rattle.std.proofs.Common.{◌≡◌, ◌≢◌, ℕ, ◌≤◌, Bool, not, List, [], ◌∷◌, ◌++◌, map, length, refl, ap, ◌∙◌, arith, Ordering, Less, Equal, Greater}
use Rattle.std.specs.List.{filter, insert, All, AllByRecursion}
use Rattle.std.specs.List.Sorted.{IsStrictlySortedBy}
use Rattle.std.specs.Cmp.{IsTotalOrder}
use Rattle.std.specs.Ordering.{ordering_reverse, is_lt, is_gt}
use Rattle.std.proofs.lemmas.List.Elements.{All-from_recursion, recursion_from_All, All-append, All-cons, All-map, All-filter}
use Rattle.std.proofs.lemmas.List.Filters.{length-filter_both}
use Rattle.std.proofs.lemmas.Map.Keys.{sorted_head, sorted_tail}

pub sorted_cons : {K : Type 0} (cmp : K → K → Ordering) (x : K) (xs : List K) → AllByRecursion (λ y. cmp x y ≡ Less) xs → IsStrictlySortedBy cmp xs → IsStrictlySortedBy cmp (x ∷ xs)
unfolding IsStrictlySortedBy
sorted_cons cmp x xs first rest = (first, rest)

pub sorted_nil : {K : Type 0} (cmp : K → K → Ordering) → IsStrictlySortedBy cmp []
unfolding IsStrictlySortedBy
sorted_nil cmp = tt

-- one more key above all others
pub sorted_push : {K : Type 0} (cmp : K → K → Ordering) (xs : List K) (y : K) → IsStrictlySortedBy cmp xs → AllByRecursion (λ x. cmp x y ≡ Less) xs → IsStrictlySortedBy cmp (xs ++ y ∷ [])
sorted_push cmp [] y rising below = sorted_cons cmp y [] tt (sorted_nil cmp)
sorted_push cmp (x ∷ xs) y rising below =
    let head : All (λ k. cmp x k ≡ Less) xs = All-from_recursion (λ k. cmp x k ≡ Less) xs (sorted_head cmp x xs rising) in
    let last : All (λ k. cmp x k ≡ Less) (y ∷ []) = All-from_recursion (λ k. cmp x k ≡ Less) (y ∷ []) (below.0, tt) in
    sorted_cons cmp x (xs ++ y ∷ [])
    (recursion_from_All (λ k. cmp x k ≡ Less) (xs ++ y ∷ []) (All-append (λ k. cmp x k ≡ Less) xs (y ∷ []) head last))
    (sorted_push cmp xs y (sorted_tail cmp x xs rising) below.1)

-- as many as pass a test are at most all
pub passing_le : {X : Type 0} (p : X → Bool) (xs : List X) (n : ℕ) → n ≡ length (filter p xs) → n ≤ length xs
passing_le p xs n e = omega (arith, length-filter_both p (λ x. not (p x)) (λ x. refl) xs)

module _ {X K : Type 0} (cmp : K → K → Ordering) (order : IsTotalOrder cmp) (key : X → K) (at : K) where
  abbrev below : X → Bool
  below x = is_lt (cmp (key x) at)

  abbrev above : X → Bool
  above x = is_gt (cmp (key x) at)

  flip_greater : (a b : K) → cmp a b ≡ Greater → cmp b a ≡ Less
  flip_greater a b e = order.antisymm b a ∙ ap ordering_reverse e

  flip_less : (a b : K) → cmp a b ≡ Less → cmp b a ≡ Greater
  flip_less a b e = order.antisymm b a ∙ ap ordering_reverse e

  -- what stands after an element above the place is above it too
  later_above : (x : X) (xs : List X) → cmp (key x) at ≡ Greater → AllByRecursion (λ k. cmp (key x) k ≡ Less) (map key xs) → AllByRecursion (λ y. cmp (key y) at ≡ Greater) xs
  later_above x [] e later = tt
  later_above x (y ∷ ys) e later =
      (flip_less at (key y) (order.trans at (key x) (key y) (flip_greater (key x) at e) later.0), later_above x ys e later.1)

  none_below : (xs : List X) → AllByRecursion (λ y. cmp (key y) at ≡ Greater) xs → filter below xs ≡ []
  none_below [] h = refl
  none_below (x ∷ xs) h = rw h.0 (none_below xs h.1)

  all_above : (xs : List X) → AllByRecursion (λ y. cmp (key y) at ≡ Greater) xs → filter above xs ≡ xs
  all_above [] h = refl
  all_above (x ∷ xs) h = rw h.0 (ap (λ ys. x ∷ ys) (all_above xs h.1))

  step_placed : (x : X) (xs : List X) (y : X) (o : Ordering) → cmp (key x) at ≡ o → IsStrictlySortedBy cmp (map key (x ∷ xs)) → cmp (key x) at ≢ Equal
      → filter below xs ++ y ∷ filter above xs ≡ insert xs (length (filter below xs)) y
      → filter below (x ∷ xs) ++ y ∷ filter above (x ∷ xs) ≡ insert (x ∷ xs) (length (filter below (x ∷ xs))) y
  step_placed x xs y Less e rising apart rest = rw e (ap (λ ys. x ∷ ys) rest)
  step_placed x xs y Equal e rising apart rest = absurd (apart e)
  step_placed x xs y Greater e rising apart rest =
      let later : AllByRecursion (λ z. cmp (key z) at ≡ Greater) xs = later_above x xs e (sorted_head cmp (key x) (map key xs) rising) in
      rw (e, none_below xs later, all_above xs later) refl

  -- the elements below, the new one and those above are the list with the new one inserted
  pub placed : (xs : List X) (y : X) → IsStrictlySortedBy cmp (map key xs) → AllByRecursion (λ x. cmp (key x) at ≢ Equal) xs
      → filter below xs ++ y ∷ filter above xs ≡ insert xs (length (filter below xs)) y
  placed [] y rising apart = refl
  placed (x ∷ xs) y rising apart = step_placed x xs y (cmp (key x) at) refl rising apart.0 (placed xs y (sorted_tail cmp (key x) (map key xs) rising) apart.1)

  over_keys : (P : K → Type 0) (xs : List X) → AllByRecursion P (map key xs) → AllByRecursion (λ z. P (key z)) xs
  over_keys P [] h = tt
  over_keys P (x ∷ xs) h = (h.0, over_keys P xs h.1)

  below_all : (xs : List X) (y : X) → key y ≡ at → AllByRecursion (λ z. cmp (key z) at ≡ Greater) xs → AllByRecursion (λ k. cmp (key y) k ≡ Less) (map key xs)
  below_all [] y is h = tt
  below_all (x ∷ xs) y is h = (ap (λ k. cmp k (key x)) is ∙ flip_greater (key x) at h.0, below_all xs y is h.1)

  step_rising : (x : X) (xs : List X) (y : X) (o : Ordering) → cmp (key x) at ≡ o → key y ≡ at → IsStrictlySortedBy cmp (map key (x ∷ xs)) → cmp (key x) at ≢ Equal
      → IsStrictlySortedBy cmp (map key (filter below xs ++ y ∷ filter above xs))
      → IsStrictlySortedBy cmp (map key (filter below (x ∷ xs) ++ y ∷ filter above (x ∷ xs)))
  step_rising x xs y Less e is rising apart rest =
      let later : All (λ z. cmp (key x) (key z) ≡ Less) xs = All-from_recursion (λ z. cmp (key x) (key z) ≡ Less) xs (over_keys (λ k. cmp (key x) k ≡ Less) xs (sorted_head cmp (key x) (map key xs) rising)) in
      let new : cmp (key x) (key y) ≡ Less = ap (cmp (key x)) is ∙ e in
      let all : All (λ z. cmp (key x) (key z) ≡ Less) (filter below xs ++ y ∷ filter above xs) =
      All-append (λ z. cmp (key x) (key z) ≡ Less) (filter below xs) (y ∷ filter above xs) (All-filter below (λ z. cmp (key x) (key z) ≡ Less) xs later)
      (All-cons (λ z. cmp (key x) (key z) ≡ Less) y (filter above xs) new (All-filter above (λ z. cmp (key x) (key z) ≡ Less) xs later)) in
      rw e (sorted_cons cmp (key x) (map key (filter below xs ++ y ∷ filter above xs))
      (recursion_from_All (λ k. cmp (key x) k ≡ Less) (map key (filter below xs ++ y ∷ filter above xs)) (All-map (λ k. cmp (key x) k ≡ Less) key (filter below xs ++ y ∷ filter above xs) all)) rest)
  step_rising x xs y Equal e is rising apart rest = absurd (apart e)
  step_rising x xs y Greater e is rising apart rest =
      let later : AllByRecursion (λ z. cmp (key z) at ≡ Greater) xs = later_above x xs e (sorted_head cmp (key x) (map key xs) rising) in
      rw (e, none_below xs later, all_above xs later) (sorted_cons cmp (key y) (map key (x ∷ xs)) (below_all (x ∷ xs) y is (e, later)) rising)

  -- and it rises too
  pub rising_placed : (xs : List X) (y : X) → key y ≡ at → IsStrictlySortedBy cmp (map key xs) → AllByRecursion (λ x. cmp (key x) at ≢ Equal) xs
      → IsStrictlySortedBy cmp (map key (filter below xs ++ y ∷ filter above xs))
  rising_placed [] y is rising apart = sorted_cons cmp (key y) [] tt (sorted_nil cmp)
  rising_placed (x ∷ xs) y is rising apart =
      step_rising x xs y (cmp (key x) at) refl is rising apart.0 (rising_placed xs y is (sorted_tail cmp (key x) (map key xs) rising) apart.1)
