-- A sorted list in which ties have their old order is the list in order.
use Rattle.std.proofs.Common.{◌≡◌, ℕ, zero, suc, ◌+◌, ◌<◌, Bool, true, false, not, ◌&&◌, cond, List, [], ◌∷◌, length, filter, All, refl, sym, ap, ◌∙◌, subst, arith, Ordering, Less, Equal, Greater, is_lt, is_gt, is_eq, true≢false}
use Rattle.std.specs.Cmp.{IsTotalOrder}
use Rattle.std.specs.List.Sorted.{IsSortedBy, IsStableBy, ties}
use Rattle.std.specs.Ordering.{ordering_reverse}
use Rattle.std.proofs.lemmas.Cmp.{tied_itself, upto}
use Rattle.std.proofs.lemmas.List.Elements.{All-nil, All-cons, All-head, All-tail, All-weaker}
use Rattle.pt_checks.specs.Ordered.{in_order, put_in}

eq-Equal : (o : Ordering) → is_eq o ≡ true → o ≡ Equal
eq-Equal Less e = cc
eq-Equal Equal e = refl
eq-Equal Greater e = cc

tie_of : (o : Ordering) → (not (is_lt o) && not (is_lt (ordering_reverse o))) ≡ is_eq o
tie_of Less = refl
tie_of Equal = refl
tie_of Greater = refl

gt_of_reverse : (o : Ordering) → is_lt o ≡ false → is_gt (ordering_reverse o) ≡ false
gt_of_reverse Less e = cc
gt_of_reverse Equal e = refl
gt_of_reverse Greater e = refl

filter_none : {A : Type 0} (p : A → Bool) (xs : List A) → All (λ x. p x ≡ false) xs → filter p xs ≡ []
filter_none p [] all = refl
filter_none p (x ∷ xs) all = let first = All-head (λ y. p y ≡ false) x xs all in let rest = filter_none p xs (All-tail (λ y. p y ≡ false) x xs all) in rw first rest

filter_same : {A : Type 0} (p q : A → Bool) (xs : List A) → ((x : A) → p x ≡ q x) → filter p xs ≡ filter q xs
filter_same p q [] alike = refl
filter_same p q (x ∷ xs) alike = rw (alike x, filter_same p q xs alike) refl

module _ {A : Type 0} (cmp : A → A → Ordering) (total : IsTotalOrder cmp) where
  abbrev AtMost : A → A → Type 0
  AtMost x y = is_gt (cmp x y) ≡ false

  abbrev Rises : List A → Type 0
  Rises [] = Unit {0}
  Rises (x ∷ xs) = All (AtMost x) xs × Rises xs

  abbrev ties_with : A → A → Bool
  ties_with x y = is_eq (cmp x y)

  ties-same : (x y : A) → ties (λ a b. is_lt (cmp a b)) x y ≡ ties_with x y
  ties-same x y = ap (λ o. not (is_lt (cmp x y)) && not (is_lt o)) (total.antisymm y x) ∙ tie_of (cmp x y)

  -- ---- the list in order

  all_put : (P : A → Type 0) (x : A) (ys : List A) → P x → All P ys → All P (put_in cmp x ys)
  all_put P x [] one all = All-cons P x [] one all
  all_put P x (y ∷ ys) one all = by (is_gt (cmp x y)) (all_put P x ys one (All-tail P y ys all))
    where
      by : (b : Bool) → All P (put_in cmp x ys) → All P (cond b (y ∷ put_in cmp x ys) (x ∷ y ∷ ys))
      by true rest = All-cons P y (put_in cmp x ys) (All-head P y ys all) rest
      by false rest = All-cons P x (y ∷ ys) one all

  rises_put : (x : A) (ys : List A) → Rises ys → Rises (put_in cmp x ys)
  rises_put x [] up = (All-nil (AtMost x), tt)
  rises_put x (y ∷ ys) up = by (cmp x y) refl (rises_put x ys up.1)
    where
      low : AtMost x y → Rises (x ∷ y ∷ ys)
      low first = (All-cons (AtMost x) y ys first (All-weaker (AtMost y) (AtMost x) (λ z. upto total x y z first) ys up.0), up)

      by : (o : Ordering) → cmp x y ≡ o → Rises (put_in cmp x ys) → Rises (cond (is_gt o) (y ∷ put_in cmp x ys) (x ∷ y ∷ ys))
      by Less e rest = low (ap is_gt e)
      by Equal e rest = low (ap is_gt e)
      by Greater e rest = (all_put (AtMost y) x ys (ap is_gt (total.antisymm y x ∙ ap ordering_reverse e)) up.0, rest)

  rises_in_order : (xs : List A) → Rises (in_order cmp xs)
  rises_in_order [] = tt
  rises_in_order (x ∷ xs) = rises_put x (in_order cmp xs) (rises_in_order xs)

  kept_put : (z x : A) (ys : List A) → filter (ties_with z) (put_in cmp x ys) ≡ filter (ties_with z) (x ∷ ys)
  kept_put z x [] = refl
  kept_put z x (y ∷ ys) = by (cmp x y) refl (kept_put z x ys)
    where
      -- what ties with z ties with each other
      turn : (a b : Bool) → ties_with z x ≡ a → ties_with z y ≡ b → cmp x y ≡ Greater → filter (ties_with z) (put_in cmp x ys) ≡ filter (ties_with z) (x ∷ ys)
          → filter (ties_with z) (y ∷ put_in cmp x ys) ≡ filter (ties_with z) (x ∷ y ∷ ys)
      turn true true p q e rest = absurd (let same = sym (total.congr z x y (eq-Equal _ p)) ∙ eq-Equal _ q in cc)
      turn true false p q e rest = rw (q, rest, p) refl
      turn false true p q e rest = rw (q, rest, p) refl
      turn false false p q e rest = rw (q, rest, p) refl

      by : (o : Ordering) → cmp x y ≡ o → filter (ties_with z) (put_in cmp x ys) ≡ filter (ties_with z) (x ∷ ys)
          → filter (ties_with z) (cond (is_gt o) (y ∷ put_in cmp x ys) (x ∷ y ∷ ys)) ≡ filter (ties_with z) (x ∷ y ∷ ys)
      by Less e rest = refl
      by Equal e rest = refl
      by Greater e rest = turn (ties_with z x) (ties_with z y) refl refl e rest

  kept_in_order : (z : A) (xs : List A) → filter (ties_with z) (in_order cmp xs) ≡ filter (ties_with z) xs
  kept_in_order z [] = refl
  kept_in_order z (x ∷ xs) = kept_put z x (in_order cmp xs) ∙ ap (λ l. cond (ties_with z x) (x ∷ l) l) (kept_in_order z xs)

  -- ---- there is one

  itself : (x : A) (xs : List A) → filter (ties_with x) (x ∷ xs) ≡ x ∷ filter (ties_with x) xs
  itself x xs = ap (λ o. cond (is_eq o) (x ∷ filter (ties_with x) xs) (filter (ties_with x) xs)) (tied_itself total x)

  -- nothing at or above y ties with what is below y
  none_below : (z y : A) (ys : List A) → cmp z y ≡ Less → All (AtMost y) ys → filter (ties_with z) (y ∷ ys) ≡ []
  none_below z y ys low up =
      filter_none (ties_with z) (y ∷ ys)
      (All-cons (λ w. ties_with z w ≡ false) y ys (ap is_eq low) (All-weaker (AtMost y) (λ w. ties_with z w ≡ false) (λ w above. by w above (ties_with z w) refl) ys up))
    where
      by : (w : A) → AtMost y w → (b : Bool) → ties_with z w ≡ b → b ≡ false
      by w above false e = refl
      by w above true e =
          let lower : cmp w y ≡ Less = sym (total.congr z w y (eq-Equal _ e)) ∙ low in
          let higher : cmp y w ≡ Greater = total.antisymm y w ∙ ap ordering_reverse lower in
          absurd (true≢false (sym (ap is_gt higher) ∙ above))

  same_first : (y z : A) (ys zs : List A) → Rises (y ∷ ys) → Rises (z ∷ zs) → ((x : A) → filter (ties_with x) (y ∷ ys) ≡ filter (ties_with x) (z ∷ zs)) → cmp y z ≡ Equal
  same_first y z ys zs up too alike = by (cmp y z) refl
    where
      by : (o : Ordering) → cmp y z ≡ o → o ≡ Equal
      by Less e = absurd (let none = sym (itself y ys) ∙ alike y ∙ none_below y z zs e too.0 in cc)
      by Equal e = refl
      by Greater e = absurd (let low = total.antisymm z y ∙ ap ordering_reverse e in let none = sym (itself z zs) ∙ sym (alike z) ∙ none_below z y ys low up.0 in cc)

  tails : (b : Bool) (y z : A) (ys zs : List A) → y ≡ z → cond b (y ∷ ys) ys ≡ cond b (z ∷ zs) zs → ys ≡ zs
  tails true y z ys zs same e = cc
  tails false y z ys zs same e = e

  unique : (ys zs : List A) → Rises ys → Rises zs → ((x : A) → filter (ties_with x) ys ≡ filter (ties_with x) zs) → ys ≡ zs
  unique [] [] up too alike = refl
  unique [] (z ∷ zs) up too alike = absurd (let none = alike z ∙ itself z zs in cc)
  unique (y ∷ ys) [] up too alike = absurd (let none = sym (itself y ys) ∙ alike y in cc)
  unique (y ∷ ys) (z ∷ zs) up too alike =
      let tied = same_first y z ys zs up too alike in
      let both : y ∷ filter (ties_with y) ys ≡ z ∷ filter (ties_with y) zs =
      sym (itself y ys) ∙ alike y ∙ ap (λ o. cond (is_eq o) (z ∷ filter (ties_with y) zs) (filter (ties_with y) zs)) tied in
      let same : y ≡ z = cc in
      let each : (x : A) → filter (ties_with x) ys ≡ filter (ties_with x) zs =
      λ x. tails (ties_with x y) y z (filter (ties_with x) ys) (filter (ties_with x) zs) same (alike x ∙ ap (λ w. cond (ties_with x w) (z ∷ filter (ties_with x) zs) (filter (ties_with x) zs)) (sym same)) in
      same_cons y z ys zs same (unique ys zs up.1 too.1 each)
    where
      same_cons : (a b : A) (more others : List A) → a ≡ b → more ≡ others → a ∷ more ≡ b ∷ others
      same_cons a b more others p q = cc

  -- ---- what a stable sort gives

  above_all : (x : A) (ys : List A) → IsSortedBy (λ a b. is_lt (cmp a b)) (x ∷ ys) → Rises ys → All (AtMost x) ys
  above_all x [] sorted up = All-nil (AtMost x)
  above_all x (y ∷ ys) sorted up =
      let first : AtMost x y = ap is_gt (total.antisymm x y) ∙ gt_of_reverse _ (sorted 0 x (omega arith) (omega arith)) in
      All-cons (AtMost x) y ys first (All-weaker (AtMost y) (AtMost x) (λ z. upto total x y z first) ys up.0)

  rises_sorted : (xs : List A) → IsSortedBy (λ a b. is_lt (cmp a b)) xs → Rises xs
  rises_sorted [] sorted = tt
  rises_sorted (x ∷ xs) sorted =
      let tail : IsSortedBy (λ a b. is_lt (cmp a b)) xs = λ k d p q. rw Rattle.std.proofs.Common.add-one (rw Rattle.std.proofs.Common.add-one at (sorted (suc k) d (omega arith) (omega arith))) in
      let up = rises_sorted xs tail in
      (above_all x xs sorted up, up)

  pub sorted_once : (xs ys : List A) → IsSortedBy (λ a b. is_lt (cmp a b)) ys → IsStableBy (λ a b. is_lt (cmp a b)) xs ys → ys ≡ in_order cmp xs
  sorted_once xs ys sorted stable =
      unique ys (in_order cmp xs) (rises_sorted ys sorted) (rises_in_order xs)
      (λ x. sym (filter_same _ _ ys (ties-same x)) ∙ stable x ∙ filter_same _ _ xs (ties-same x) ∙ sym (kept_in_order x xs))
