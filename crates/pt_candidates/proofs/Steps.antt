-- Loops over spots, one more at a time.
use Rattle.std.proofs.Common.{◌≡◌, ℕ, ◌+◌, ◌<◌, Bool, true, false, cond, List, [], ◌∷◌, ◌++◌, length, map, take, get_or, Err, sym, ap, ◌∙◌, append_assoc}
use Rattle.std.specs.List.{filter, flat_map, range_with_len}
use Rattle.std.proofs.lemmas.Grind.{flat_map-append}
use Rattle.std.proofs.lemmas.List.{append-nil, map-append, take_more}
use Rattle.std.proofs.lemmas.List.Elements.{filter-append}
use Rattle.pt_checks.proofs.Positions.{one_more}
use Rattle.pt_store.specs.declared.stop.Stop.{Stop}
use Rattle.pt_store.specs.declared.stop.Stop.TheVariants.{NoMemory, Fault, Bad as BadFile}
use Rattle.pt_store.specs.Stops.{IfBad}

flat_map_push : {X A : Type 0} (f : X → List A) (xs : List X) (x : X) → flat_map f (xs ++ x ∷ []) ≡ flat_map f xs ++ f x
flat_map_push f xs x = flat_map-append f xs (x ∷ []) ∙ ap (λ l. flat_map f xs ++ l) (append-nil (f x))

-- the rows of one more spot
pub read_more : {X A : Type 0} (f : X → List A) (xs : List X) (i : ℕ) (d : X) (before after : List A) → i < length xs → before ≡ flat_map f (take i xs) → after ≡ before ++ f (get_or xs i d)
    → after ≡ flat_map f (take (i + 1) xs)
read_more f xs i d before after within was now =
    now
    ∙ ap (λ l. l ++ f (get_or xs i d)) was
    ∙ sym (ap (flat_map f) (take_more xs i d within) ∙ flat_map_push f (take i xs) (get_or xs i d))

module _ {X : Type 0} (p : X → Bool) where
  -- the spots of one more partition
  pub parts_more : (f : ℕ → List X) (n : ℕ) → filter p (flat_map f (range_with_len 0 (n + 1))) ≡ filter p (flat_map f (range_with_len 0 n)) ++ filter p (f n)
  parts_more f n =
      ap (λ ns. filter p (flat_map f ns)) (one_more n)
      ∙ ap (filter p) (flat_map_push f (range_with_len 0 n) n)
      ∙ filter-append p (flat_map f (range_with_len 0 n)) (f n)

  subs_more : (f : ℕ → X) (n : ℕ) → filter p (map f (range_with_len 0 (n + 1))) ≡ filter p (map f (range_with_len 0 n)) ++ filter p (f n ∷ [])
  subs_more f n =
      ap (λ ns. filter p (map f ns)) (one_more n)
      ∙ ap (filter p) (map-append f (range_with_len 0 n) (n ∷ []))
      ∙ filter-append p (map f (range_with_len 0 n)) (f n ∷ [])

  -- one more spot of a partition, which passes or doesn't
  pub sub_added : (f : ℕ → X) (n : ℕ) (start before after : List X) → before ≡ start ++ filter p (map f (range_with_len 0 n)) → p (f n) ≡ true → after ≡ before ++ f n ∷ []
      → after ≡ start ++ filter p (map f (range_with_len 0 (n + 1)))
  sub_added f n start before after was passes now =
      now
      ∙ ap (λ l. l ++ f n ∷ []) was
      ∙ append_assoc start (filter p (map f (range_with_len 0 n))) (f n ∷ [])
      ∙ ap (λ l. start ++ l) (sym (subs_more f n ∙ ap (λ b. filter p (map f (range_with_len 0 n)) ++ cond b (f n ∷ []) []) passes))

  pub sub_passed : (f : ℕ → X) (n : ℕ) (start before : List X) → before ≡ start ++ filter p (map f (range_with_len 0 n)) → p (f n) ≡ false
      → before ≡ start ++ filter p (map f (range_with_len 0 (n + 1)))
  sub_passed f n start before was passes =
      was ∙ ap (λ l. start ++ l) (sym (subs_more f n ∙ ap (λ b. filter p (map f (range_with_len 0 n)) ++ cond b (f n ∷ []) []) passes ∙ append-nil (filter p (map f (range_with_len 0 n)))))

-- a bad file is told from call to call
pub bad_told : (T U : Type 0) (e : Stop) (P Q : List ℕ → ℕ → Type 0) → ((name : List ℕ) (place : ℕ) → P name place → Q name place) → IfBad {T = T} (Err e) P → IfBad {T = U} (Err e) Q
bad_told T U NoMemory P Q weaker had = tt
bad_told T U (BadFile name place) P Q weaker had = weaker name place had
bad_told T U Fault P Q weaker had = tt
