-- Loops over spots, one more at a time.
use Rattle.std.proofs.Common.{◌≡◌, ℕ, zero, suc, ◌+◌, Bool, true, false, cond, List, [], ◌∷◌, ◌++◌, map, sym, ap, ◌∙◌, append_assoc, arith}
use Rattle.std.specs.List.{filter, flat_map, range_with_len}
use Rattle.std.proofs.lemmas.Grind.{flat_map-append}
use Rattle.std.proofs.lemmas.List.{append-nil, map-append}
use Rattle.std.proofs.lemmas.List.Elements.{filter-append}

range_more : (a n : ℕ) → range_with_len a (n + 1) ≡ range_with_len a n ++ (a + n) ∷ []
range_more a zero = ap (λ k. k ∷ []) (omega arith)
range_more a (suc n) =
    let next : suc n + 1 ≡ suc (n + 1) = omega arith in
    ap (range_with_len a) next ∙ ap (λ l. a ∷ l) (range_more (a + 1) n ∙ ap (λ k. range_with_len (a + 1) n ++ k ∷ []) (omega arith))

one_more : (n : ℕ) → range_with_len 0 (n + 1) ≡ range_with_len 0 n ++ n ∷ []
one_more n = range_more 0 n ∙ ap (λ k. range_with_len 0 n ++ k ∷ []) (omega arith)

flat_map_push : {X A : Type 0} (f : X → List A) (xs : List X) (x : X) → flat_map f (xs ++ x ∷ []) ≡ flat_map f xs ++ f x
flat_map_push f xs x = flat_map-append f xs (x ∷ []) ∙ ap (λ l. flat_map f xs ++ l) (append-nil (f x))

module _ {X : Type 0} (p : X → Bool) where
  -- the spots of one more partition
  pub parts_more : (f : ℕ → List X) (n : ℕ) → filter p (flat_map f (range_with_len 0 (n + 1))) ≡ filter p (flat_map f (range_with_len 0 n)) ++ filter p (f n)
  parts_more f n =
      ap (λ ns. filter p (flat_map f ns)) (one_more n)
      ∙ ap (filter p) (flat_map_push f (range_with_len 0 n) n)
      ∙ filter-append p (flat_map f (range_with_len 0 n)) (f n)

  subs_more : (f : ℕ → X) (n : ℕ) → filter p (map f (range_with_len 0 (n + 1))) ≡ filter p (map f (range_with_len 0 n)) ++ filter p (f n ∷ [])
  subs_more f n =
      ap (λ ns. filter p (map f ns)) (one_more n)
      ∙ ap (filter p) (map-append f (range_with_len 0 n) (n ∷ []))
      ∙ filter-append p (map f (range_with_len 0 n)) (f n ∷ [])

  -- one more spot of a partition, which passes or doesn't
  pub sub_added : (f : ℕ → X) (n : ℕ) (start before after : List X) → before ≡ start ++ filter p (map f (range_with_len 0 n)) → p (f n) ≡ true → after ≡ before ++ f n ∷ []
      → after ≡ start ++ filter p (map f (range_with_len 0 (n + 1)))
  sub_added f n start before after was passes now =
      now
      ∙ ap (λ l. l ++ f n ∷ []) was
      ∙ append_assoc start (filter p (map f (range_with_len 0 n))) (f n ∷ [])
      ∙ ap (λ l. start ++ l) (sym (subs_more f n ∙ ap (λ b. filter p (map f (range_with_len 0 n)) ++ cond b (f n ∷ []) []) passes))

  pub sub_passed : (f : ℕ → X) (n : ℕ) (start before : List X) → before ≡ start ++ filter p (map f (range_with_len 0 n)) → p (f n) ≡ false
      → before ≡ start ++ filter p (map f (range_with_len 0 (n + 1)))
  sub_passed f n start before was passes =
      was ∙ ap (λ l. start ++ l) (sym (subs_more f n ∙ ap (λ b. filter p (map f (range_with_len 0 n)) ++ cond b (f n ∷ []) []) passes ∙ append-nil (filter p (map f (range_with_len 0 n)))))
