-- The spots of a definition by their numbers, and their rows with one row more.
use Rattle.std.proofs.Common.{◌≡◌, ◌≢◌, ℕ, zero, suc, ◌+◌, ◌*◌, ◌<◌, ◌≤◌, Bool, true, false, cond, List, [], ◌∷◌, ◌++◌, length, map, get_or, set, Option, Some, None, refl, sym, ap, ap₂, subst, ◌∙◌, arith, length-append, zero-add, nat_lt}
use Rattle.std.specs.Prelude.{Result, Ok, Err, OnOk}
use Rattle.std.specs.List.{All, AllPairs, flat_map, range_with_len}
use Rattle.std.specs.Option.{option_map_or}
use Rattle.std.proofs.Math.Nat.{mul-le-mul_right, suc-mul}
use Rattle.std.proofs.lemmas.Bool.{ltb-false, ltb-true}
use Rattle.std.proofs.lemmas.Grind.{flat_map-append}
use Rattle.std.proofs.lemmas.List.{append-nil, append_assoc, get_or_append_left, get_or-append-add, get_or-map, map-append}
use Rattle.std.proofs.lemmas.List.Elements.{All-head, All-tail, filter-append}
use Rattle.std.proofs.lemmas.List.FromFn.{get_or-map-range_with_len, length-map-range_with_len, map-range_with_len_more}
use Rattle.pt_plain.proofs.Pairs.{pairs_head, pairs_tail}
use Rattle.pt_ast.specs.declared.database.Row.{Row}
use Rattle.pt_ast.specs.declared.database.Spot.{Spot}
use Rattle.pt_ast.specs.declared.table.TableDef.{TableDef}
use Rattle.pt_place.specs.Checks.{is_whole}
use Rattle.pt_place.specs.Place.{place_of, subs_at}
use Rattle.pt_place.specs.Valid.{IsValid}
use Rattle.pt_place.proofs.Passing.{passed}
use Rattle.pt_checks.proofs.Positions.{one_more}
use Rattle.pt_db.specs.Rows.{is_at, is_spot, spot_rows}
use Rattle.pt_db.specs.Spots.{IsSpotOf, part_count, spot_at, spots_in, spots_of, sub_count}
use Rattle.pt_db.proofs.SpotLists.{spots_apart}
use Rattle.pt_db.proofs.Spots.{placed_spot, spot_same, spots_some, stands_there}
use Rattle.pt_spread.specs.Spread.{beside_none, number_of, rows_by_spot, with_last}
use Rattle.pt_spread.proofs.Few.{alike_at, beyond}

-- ---- pieces of one length

module _ {X : Type 0} (f : ℕ → List X) (k : ℕ) where
  abbrev AreAlike : ℕ → ℕ → Type 0
  AreAlike a n = (p : ℕ) → a ≤ p → p < a + n → length (f p) ≡ k

  behind : (a n : ℕ) → AreAlike a (suc n) → AreAlike (a + 1) n
  behind a n each p low high = each p (omega (arith, low)) (omega (arith, high))

  flat_length : (a n : ℕ) → AreAlike a n → length (flat_map f (range_with_len a n)) ≡ n * k
  flat_length a zero each = omega arith
  flat_length a (suc n) each =
      let first = each a (omega arith) (omega arith) in
      let rest = flat_length (a + 1) n (behind a n each) in
      omega (arith, length-append (f a) (flat_map f (range_with_len (a + 1) n)), first, rest, suc-mul n k)

  flat_at : (a n i j : ℕ) (d : X) → AreAlike a n → i < n → j < k → get_or (flat_map f (range_with_len a n)) (i * k + j) d ≡ get_or (f (a + i)) j d
  flat_at a zero i j d each within below = absurd (omega (arith, within))
  flat_at a (suc n) zero j d each within below =
      let first = each a (omega arith) (omega arith) in
      let here : j < length (f a) = omega (arith, first, below) in
      let at : zero * k + j ≡ j = omega arith in
      let same : a ≡ a + zero = omega arith in
      ap (λ m. get_or (f a ++ flat_map f (range_with_len (a + 1) n)) m d) at
      ∙ get_or_append_left (f a) (flat_map f (range_with_len (a + 1) n)) d j here
      ∙ ap (λ p. get_or (f p) j d) same
  flat_at a (suc n) (suc i) j d each within below =
      let first = each a (omega arith) (omega arith) in
      let at : suc i * k + j ≡ length (f a) + (i * k + j) = omega (arith, first, suc-mul i k) in
      let same : a + 1 + i ≡ a + suc i = omega arith in
      ap (λ m. get_or (f a ++ flat_map f (range_with_len (a + 1) n)) m d) at
      ∙ get_or-append-add (f a) (flat_map f (range_with_len (a + 1) n)) (i * k + j) d
      ∙ flat_at (a + 1) n i j d (behind a n each) (omega (arith, within)) below
      ∙ ap (λ p. get_or (f p) j d) same

-- ---- the number of a spot

module _ (def : TableDef) (valid : IsValid def) where
  -- each partition has as many subpartitions
  alike : (p q : ℕ) → p < part_count def → q < part_count def → sub_count def p ≡ sub_count def q
  alike p q first second = by (is_whole def.sub) refl
    where
      inside : (i : ℕ) → i < part_count def → is_whole def.sub ≡ false → i < length def.parts
      inside i below other = by_test (nat_lt i (length def.parts)) refl
        where
          by_test : (t : Bool) → nat_lt i (length def.parts) ≡ t → i < length def.parts
          by_test true e = ltb-true _ _ e
          by_test false e =
              let some : 0 < length (subs_at def.parts i) = subst (λ b. 0 < cond b 1 (length (subs_at def.parts i))) other (spots_some def valid i below) in
              absurd (omega (arith, some, beyond def.parts i (ltb-false _ _ e)))

      by : (t : Bool) → is_whole def.sub ≡ t → cond t 1 (length (subs_at def.parts p)) ≡ cond t 1 (length (subs_at def.parts q))
      by true e = refl
      by false e =
          let checks = passed def valid in
          alike_at def.parts def.parts p checks.alike (inside p first e) ∙ sym (alike_at def.parts def.parts q checks.alike (inside q second e))

  module _ (spot : Spot) (is : IsSpotOf def spot) where
    each : (p : ℕ) → 0 ≤ p → p < 0 + part_count def → length (spots_in def p) ≡ sub_count def spot.part
    each p low high =
        length-map-range_with_len (spot_at p) 0 (sub_count def p) ∙ alike p spot.part (omega (arith, high)) is.part

    pub number_within : number_of def spot < length (spots_of def)
    number_within =
        let long = flat_length (spots_in def) (sub_count def spot.part) 0 (part_count def) each in
        let part : spot.part + 1 ≤ part_count def = let below = is.part in omega (arith, below) in
        let most = mul-le-mul_right (sub_count def spot.part) part in
        let sub = is.sub in
        omega (arith, long, most, sub)

    pub at_number : (d : Spot) → get_or (spots_of def) (number_of def spot) d ≡ spot
    at_number d =
        flat_at (spots_in def) (sub_count def spot.part) 0 (part_count def) spot.part spot.sub d each is.part is.sub
        ∙ ap (λ p. get_or (spots_in def p) spot.sub d) (zero-add spot.part)
        ∙ get_or-map-range_with_len (spot_at spot.part) 0 (sub_count def spot.part) spot.sub spot.sub d is.sub (zero-add spot.sub)

-- ---- one element of a list of different ones has another image

module _ {X Y : Type 0} (f g : X → Y) where
  map_same : (xs : List X) → All (λ x. g x ≡ f x) xs → map g xs ≡ map f xs
  map_same [] same = refl
  map_same (x ∷ xs) same = ap₂ (λ y ys. y ∷ ys) (All-head (λ z. g z ≡ f z) x xs same) (map_same xs (All-tail (λ z. g z ≡ f z) x xs same))

  one_changed : (xs : List X) (at : ℕ) (d : X) → at < length xs → AllPairs (λ a b. a ≢ b) xs → ((x : X) → x ≢ get_or xs at d → g x ≡ f x)
      → map g xs ≡ set (map f xs) at (g (get_or xs at d))
  one_changed [] at d within apart same = absurd (omega (arith, within))
  one_changed (x ∷ xs) zero d within apart same =
      let others : All (λ y. x ≢ y) xs = pairs_head (λ a b. a ≢ b) x xs apart in
      ap (λ ys. g x ∷ ys) (map_same xs (λ k e below. same (get_or xs k e) (λ is. others k e below (sym is))))
  one_changed (x ∷ xs) (suc at) d within apart same =
      let inside : at < length xs = omega (arith, within) in
      let differs : x ≢ get_or xs at d = pairs_head (λ a b. a ≢ b) x xs apart at d inside in
      ap₂ (λ y ys. y ∷ ys) (same x differs) (one_changed xs at d inside (pairs_tail (λ a b. a ≢ b) x xs apart) same)

-- ---- a row more

module _ (def : TableDef) (before : List Row) (row : Row) where
  abbrev had : Spot → Spot × List Row
  had spot = (spot, spot_rows def spot before)

  abbrev has : Spot → Spot × List Row
  has spot = (spot, spot_rows def spot (before ++ row ∷ []))

  left : (spot : Spot) → is_at def spot row ≡ false → has spot ≡ had spot
  left spot out =
      ap (λ rows. (spot, rows))
      (filter-append (is_at def spot) before (row ∷ []) ∙ ap (λ b. spot_rows def spot before ++ cond b (row ∷ []) []) out ∙ append-nil (spot_rows def spot before))

  put : (spot : Spot) → is_at def spot row ≡ true → has spot ≡ with_last row (had spot)
  put spot stands =
      ap (λ rows. (spot, rows)) (filter-append (is_at def spot) before (row ∷ []) ∙ ap (λ b. spot_rows def spot before ++ cond b (row ∷ []) []) stands)

  elsewhere : (spot other : Spot) → place_of def row.cells ≡ Some spot → other ≢ spot → is_at def other row ≡ false
  elsewhere spot other at apart = ap (λ (o : Option Spot). option_map_or (is_spot other) o false) at ∙ by (is_spot other spot) refl
    where
      by : (b : Bool) → is_spot other spot ≡ b → b ≡ false
      by true e = absurd (apart (spot_same other spot e))
      by false e = refl

  -- it stands in a spot
  pub put_one : (valid : IsValid def) (spot : Spot) (old new : List (Spot × List Row)) → place_of def row.cells ≡ Some spot → old ≡ rows_by_spot def before
      → ((none : Spot × List Row) → new ≡ set old (number_of def spot) (with_last row (get_or old (number_of def spot) none))) → new ≡ rows_by_spot def (before ++ row ∷ [])
  put_one valid spot old new at was now =
      let of = placed_spot def valid row.cells spot at in
      let within = number_within def valid spot of in
      let number = number_of def spot in
      let here = at_number def valid spot of spot in
      let found : get_or (map had (spots_of def)) number (had spot) ≡ had spot = get_or-map had (spots_of def) number spot (had spot) within ∙ ap had here in
      let changed = one_changed had has (spots_of def) number spot within (spots_apart def) (λ other apart. left other (elsewhere spot other at (λ is. apart (is ∙ sym here)))) in
      now (had spot)
      ∙ ap (λ own. set own number (with_last row (get_or own number (had spot)))) was
      ∙ ap (λ own. set (map had (spots_of def)) number (with_last row own)) found
      ∙ ap (λ own. set (map had (spots_of def)) number own) (sym (put spot (stands_there def spot row.cells at)))
      ∙ ap (λ own. set (map had (spots_of def)) number (has own)) (sym here)
      ∙ sym changed

  -- no partition takes it
  pub pass_one : (old : List (Spot × List Row)) → place_of def row.cells ≡ None → old ≡ rows_by_spot def before → old ≡ rows_by_spot def (before ++ row ∷ [])
  pass_one old none was = was ∙ sym (map_same had has (spots_of def) (λ k d below. left (get_or (spots_of def) k d) (ap (λ (o : Option Spot). option_map_or (is_spot (get_or (spots_of def) k d)) o false) none)))

-- ---- spots without rows

flat_map_push : {A : Type 0} (f : ℕ → List A) (xs : List ℕ) (x : ℕ) → flat_map f (xs ++ x ∷ []) ≡ flat_map f xs ++ f x
flat_map_push f xs x = flat_map-append f xs (x ∷ []) ∙ ap (λ l. flat_map f xs ++ l) (append-nil (f x))

-- those of a partition more
pub part_more : (def : TableDef) (part : ℕ) (old new : List (Spot × List Row)) → old ≡ map beside_none (flat_map (spots_in def) (range_with_len 0 part)) → new ≡ old ++ map beside_none (spots_in def part)
    → new ≡ map beside_none (flat_map (spots_in def) (range_with_len 0 (part + 1)))
part_more def part old new was now =
    now
    ∙ ap (λ l. l ++ map beside_none (spots_in def part)) was
    ∙ sym (map-append beside_none (flat_map (spots_in def) (range_with_len 0 part)) (spots_in def part))
    ∙ ap (map beside_none) (sym (flat_map_push (spots_in def) (range_with_len 0 part) part))
    ∙ ap (λ ns. map beside_none (flat_map (spots_in def) ns)) (sym (one_more part))

-- a spot of a partition more
pub spot_more : (part sub : ℕ) (start old new : List (Spot × List Row)) → old ≡ start ++ map beside_none (map (spot_at part) (range_with_len 0 sub)) → new ≡ old ++ (spot_at part sub, []) ∷ []
    → new ≡ start ++ map beside_none (map (spot_at part) (range_with_len 0 (sub + 1)))
spot_more part sub start old new was now =
    now
    ∙ ap (λ l. l ++ beside_none (spot_at part sub) ∷ []) was
    ∙ append_assoc start (map beside_none (map (spot_at part) (range_with_len 0 sub))) (beside_none (spot_at part sub) ∷ [])
    ∙ ap (λ l. start ++ l) (sym (map-append beside_none (map (spot_at part) (range_with_len 0 sub)) (spot_at part sub ∷ [])))
    ∙ ap (λ l. start ++ map beside_none l) (sym (map-range_with_len_more (spot_at part) 0 sub sub (zero-add sub)))

-- what holds of each, where a call succeeds, holds of all
pub each_ok : {A E N : Type 0} (r : Result A E) (P : N → Type 0) → ((n : N) → OnOk r (P n)) → OnOk r ((n : N) → P n)
each_ok (Ok x) P each = each
each_ok (Err e) P each = tt
