-- The first spot of a name, partition by partition.
use Rattle.std.proofs.Common.{◌≡◌, ℕ, zero, suc, ◌+◌, ◌<◌, Bool, true, false, cond, List, [], ◌∷◌, ◌++◌, map, Option, Some, None, refl, sym, ap, subst, ◌∙◌, arith}
use Rattle.std.specs.List.{find, flat_map, range_with_len}
use Rattle.std.specs.Option.{option_or}
use Rattle.std.proofs.lemmas.Grind.{flat_map-append}
use Rattle.std.proofs.lemmas.List.{append-nil}
use Rattle.std.proofs.lemmas.List.Folds.{find-append}
use Rattle.pt_checks.proofs.Positions.{one_more}

module _ {X : Type 0} (p : X → Bool) where
  -- none of one list, and none of another behind it
  none_both : (xs ys : List X) → find p xs ≡ None → find p ys ≡ None → find p (xs ++ ys) ≡ None
  none_both xs ys a b = find-append p xs ys ∙ ap (λ o. option_or o (find p ys)) a ∙ b

  some_behind : (xs ys : List X) (o : Option X) → find p xs ≡ None → find p ys ≡ o → find p (xs ++ ys) ≡ o
  some_behind xs ys o a b = find-append p xs ys ∙ ap (λ own. option_or own (find p ys)) a ∙ b

  some_first : (xs ys : List X) (x : X) → find p xs ≡ Some x → find p (xs ++ ys) ≡ Some x
  some_first xs ys x a = find-append p xs ys ∙ ap (λ own. option_or own (find p ys)) a

  first_none : (xs ys : List X) → find p (xs ++ ys) ≡ None → (find p xs ≡ None) × (find p ys ≡ None)
  first_none xs ys e = by (find p xs) refl (sym (find-append p xs ys) ∙ e)
    where
      by : (o : Option X) → find p xs ≡ o → option_or (find p xs) (find p ys) ≡ None → (find p xs ≡ None) × (find p ys ≡ None)
      by None is all = (is, sym (ap (λ own. option_or own (find p ys)) is) ∙ all)
      by (Some x) is all = let bad : Some x ≡ None = sym (ap (λ own. option_or own (find p ys)) is) ∙ all in cc

  -- ---- over numbers

  pub none_more : (f : ℕ → List X) (n : ℕ) → find p (flat_map f (range_with_len 0 n)) ≡ None → find p (f n) ≡ None → find p (flat_map f (range_with_len 0 (n + 1))) ≡ None
  none_more f n before here =
      ap (λ ns. find p (flat_map f ns)) (one_more n)
      ∙ ap (find p) (flat_map-append f (range_with_len 0 n) (n ∷ []) ∙ ap (λ l. flat_map f (range_with_len 0 n) ++ l) (append-nil (f n)))
      ∙ none_both (flat_map f (range_with_len 0 n)) (f n) before here

  found_from : (f : ℕ → List X) (a k n : ℕ) (x : X) → k < n → find p (flat_map f (range_with_len a k)) ≡ None → find p (f (a + k)) ≡ Some x → find p (flat_map f (range_with_len a n)) ≡ Some x
  found_from f a zero zero x within before here = absurd (omega (arith, within))
  found_from f a (suc k) zero x within before here = absurd (omega (arith, within))
  found_from f a zero (suc n) x within before here =
      let at : a + 0 ≡ a = omega arith in
      some_first (f a) (flat_map f (range_with_len (a + 1) n)) x (subst (λ m. find p (f m) ≡ Some x) at here)
  found_from f a (suc k) (suc n) x within before here =
      let at : a + suc k ≡ (a + 1) + k = omega arith in
      let two = first_none (f a) (flat_map f (range_with_len (a + 1) k)) before in
      some_behind (f a) (flat_map f (range_with_len (a + 1) n)) (Some x) two.0 (found_from f (a + 1) k n x (omega (arith, within)) two.1 (subst (λ m. find p (f m) ≡ Some x) at here))

  pub found_there : (f : ℕ → List X) (k n : ℕ) (x : X) → k < n → find p (flat_map f (range_with_len 0 k)) ≡ None → find p (f k) ≡ Some x → find p (flat_map f (range_with_len 0 n)) ≡ Some x
  found_there f k n x within before here = found_from f 0 k n x within before (let at : 0 + k ≡ k = omega arith in subst (λ m. find p (f m) ≡ Some x) (sym at) here)

  -- ---- one each

  one : (f : ℕ → X) (n : ℕ) (b : Bool) → p (f n) ≡ b → find p (f n ∷ []) ≡ cond b (Some (f n)) None
  one f n b e = ap (λ t. cond t (Some (f n)) None) e

  as_flat : (f : ℕ → X) (ns : List ℕ) → flat_map (λ n. f n ∷ []) ns ≡ map f ns
  as_flat f [] = refl
  as_flat f (n ∷ ns) = ap (λ l. f n ∷ l) (as_flat f ns)

  pub one_passed : (f : ℕ → X) (n : ℕ) → find p (map f (range_with_len 0 n)) ≡ None → p (f n) ≡ false → find p (map f (range_with_len 0 (n + 1))) ≡ None
  one_passed f n before out =
      ap (find p) (sym (as_flat f (range_with_len 0 (n + 1))))
      ∙ none_more (λ m. f m ∷ []) n (ap (find p) (as_flat f (range_with_len 0 n)) ∙ before) (one f n false out)

  pub one_found : (f : ℕ → X) (k n : ℕ) → k < n → find p (map f (range_with_len 0 k)) ≡ None → p (f k) ≡ true → find p (map f (range_with_len 0 n)) ≡ Some (f k)
  one_found f k n within before passes =
      ap (find p) (sym (as_flat f (range_with_len 0 n)))
      ∙ found_there (λ m. f m ∷ []) k n (f k) within (ap (find p) (as_flat f (range_with_len 0 k)) ∙ before) (one f k true passes)
