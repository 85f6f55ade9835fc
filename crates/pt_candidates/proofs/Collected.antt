-- The rows that a statement takes of the spots that it reads are, in order, those that it takes of the table.
use Rattle.std.proofs.Common.{◌≡◌, ◌≢◌, ℕ, zero, suc, Bool, true, false, cond, List, [], ◌∷◌, ◌++◌, map, get_or, Option, Some, None, refl, sym, ap, ap₂, subst, ◌∙◌, arith, Ordering, Less, Equal, Greater, is_eq}
use Rattle.std.specs.Cmp.{nat_cmp_total}
use Rattle.std.specs.List.{All, AllByRecursion, AllPairs, Contains, filter, flat_map}
use Rattle.std.specs.Option.{option_map_or}
use Rattle.std.specs.Ordering.{nat_cmp, ordering_reverse, ordering_then}
use Rattle.std.proofs.lemmas.Bool.{and_parts}
use Rattle.std.proofs.lemmas.List.Elements.{All-cons, All-contains, All-filter, All-head, All-nil, All-tail, All-weaker, Contains-append_right}
use Rattle.std.proofs.lemmas.List.Kept.{AllPairs-filter}
use Rattle.std.proofs.lemmas.Map.Keys.{sorted_head, sorted_tail}
use Rattle.pt_plain.proofs.Pairs.{pairs_head, pairs_tail}
use Rattle.pt_ast.specs.declared.database.Row.{Row}
use Rattle.pt_ast.specs.declared.database.Spot.{Spot}
use Rattle.pt_ast.specs.declared.statement.Tail.{Tail}
use Rattle.pt_ast.specs.declared.table.TableDef.{TableDef}
use Rattle.pt_place.specs.Place.{place_of}
use Rattle.pt_place.specs.Valid.{IsValid}
use Rattle.pt_checks.specs.Ordered.{in_order, put_in}
use Rattle.pt_checks.specs.Wanted.{arranged, candidates, cells_cmp, cut, is_in_parts, is_named_spot, is_wanted, order_of, passes, row_cmp}
use Rattle.pt_checks.proofs.Orders.{row_total}
use Rattle.pt_db.specs.Rows.{AreRising, is_at, is_spot, spot_rows}
use Rattle.pt_db.specs.Spots.{spots_of}
use Rattle.pt_db.proofs.SpotLists.{spot_listed, spots_apart}
use Rattle.pt_db.proofs.Spots.{placed_spot, spot_same, stands_there}
use Rattle.pt_candidates.specs.Read.{spots_read, wanted_in}
use Rattle.pt_candidates.proofs.InOrder.{put_last}

-- ---- lists

flat_map_same : {X A : Type 0} (f g : X → List A) (xs : List X) → All (λ x. f x ≡ g x) xs → flat_map f xs ≡ flat_map g xs
flat_map_same f g [] same = refl
flat_map_same f g (x ∷ xs) same = ap₂ (λ a b. a ++ b) (All-head (λ y. f y ≡ g y) x xs same) (flat_map_same f g xs (All-tail (λ y. f y ≡ g y) x xs same))

flat_map_none : {X A : Type 0} (f : X → List A) (xs : List X) → ((x : X) → f x ≡ []) → flat_map f xs ≡ []
flat_map_none f [] none = refl
flat_map_none f (x ∷ xs) none = ap₂ (λ a b. a ++ b) (none x) (flat_map_none f xs none)

contains_filter : {X : Type 0} (p : X → Bool) (xs : List X) (x : X) → p x ≡ true → Contains xs x → Contains (filter p xs) x
contains_filter p [] x holds h = absurd (let within = h.1 in omega (arith, within))
contains_filter p (y ∷ ys) x holds (zero, within, is) = subst (λ b. Contains (cond b (y ∷ filter p ys) (filter p ys)) x) (sym (ap p is ∙ holds)) (zero, omega arith, is)
contains_filter p (y ∷ ys) x holds (suc k, within, is) = by (p y) (contains_filter p ys x holds (k, omega (arith, within), is))
  where
    by : (b : Bool) → Contains (filter p ys) x → Contains (cond b (y ∷ filter p ys) (filter p ys)) x
    by true rest = Contains-append_right (y ∷ []) (filter p ys) x rest
    by false rest = rest

-- ---- serials

later_serials : (serial : ℕ) (rows : List Row) → AllByRecursion (λ n. nat_cmp serial n ≡ Less) (map (λ (row : Row). row.serial) rows) → All (λ (row : Row). nat_cmp serial row.serial ≡ Less) rows
later_serials serial [] above = All-nil (λ (row : Row). nat_cmp serial row.serial ≡ Less)
later_serials serial (row ∷ rows) above = All-cons (λ (other : Row). nat_cmp serial other.serial ≡ Less) row rows above.0 (later_serials serial rows above.1)

first_serial : (row : Row) (rows : List Row) → AreRising (row ∷ rows) → All (λ (other : Row). nat_cmp row.serial other.serial ≡ Less) rows
first_serial row rows up = later_serials row.serial rows (sorted_head nat_cmp row.serial (map (λ (r : Row). r.serial) rows) up)

behind : (row : Row) (rows : List Row) → AreRising (row ∷ rows) → AreRising rows
behind row rows up = sorted_tail nat_cmp row.serial (map (λ (r : Row). r.serial) rows) up

then_tied : (a b : Ordering) → is_eq (ordering_then a b) ≡ true → b ≡ Equal
then_tied Less b e = cc
then_tied Equal Less e = cc
then_tied Equal Equal e = refl
then_tied Equal Greater e = cc
then_tied Greater b e = cc

-- rows of two serials don't tie
untied : (order : List (ℕ × Bool)) (a b : Row) → nat_cmp a.serial b.serial ≡ Less → (is_eq (row_cmp order b a) ≡ false) × (is_eq (row_cmp order a b) ≡ false)
untied order a b less = (by (is_eq (row_cmp order b a)) refl, also (is_eq (row_cmp order a b)) refl)
  where
    by : (t : Bool) → is_eq (row_cmp order b a) ≡ t → is_eq (row_cmp order b a) ≡ false
    by false e = e
    by true e =
        let tie : nat_cmp b.serial a.serial ≡ Equal = then_tied (cells_cmp order b.cells a.cells) (nat_cmp b.serial a.serial) e in
        absurd (let bad : Less ≡ Equal = sym less ∙ nat_cmp_total.antisymm a.serial b.serial ∙ ap ordering_reverse tie in cc)

    also : (t : Bool) → is_eq (row_cmp order a b) ≡ t → is_eq (row_cmp order a b) ≡ false
    also false e = e
    also true e = absurd (let bad : Less ≡ Equal = sym less ∙ then_tied (cells_cmp order a.cells b.cells) (nat_cmp a.serial b.serial) e in cc)

-- ---- the rows of the spots

module _ (def : TableDef) (keep : Row → Bool) (order : List (ℕ × Bool)) where
  abbrev kept_in : List Row → Spot → List Row
  kept_in rows spot = filter keep (spot_rows def spot rows)

  left_out : (row : Row) (rows : List Row) (spot : Spot) → keep row ≡ false → kept_in (row ∷ rows) spot ≡ kept_in rows spot
  left_out row rows spot out = by (is_at def spot row)
    where
      by : (b : Bool) → filter keep (cond b (row ∷ spot_rows def spot rows) (spot_rows def spot rows)) ≡ filter keep (spot_rows def spot rows)
      by true = ap (λ b. cond b (row ∷ filter keep (spot_rows def spot rows)) (filter keep (spot_rows def spot rows))) out
      by false = refl

  is_elsewhere : (row : Row) (spot other : Spot) → place_of def row.cells ≡ Some spot → other ≢ spot → is_at def other row ≡ false
  is_elsewhere row spot other at apart = by (is_spot other spot) refl ∙ refl
    where
      by : (b : Bool) → is_spot other spot ≡ b → is_at def other row ≡ false
      by true e = absurd (apart (spot_same other spot e))
      by false e = ap (λ (o : Option Spot). option_map_or (is_spot other) o false) at ∙ e

  elsewhere : (row : Row) (rows : List Row) (spot other : Spot) → place_of def row.cells ≡ Some spot → other ≢ spot → kept_in (row ∷ rows) other ≡ kept_in rows other
  elsewhere row rows spot other at apart = ap (λ b. filter keep (cond b (row ∷ spot_rows def other rows) (spot_rows def other rows))) (is_elsewhere row spot other at apart)

  here : (row : Row) (rows : List Row) (spot : Spot) → place_of def row.cells ≡ Some spot → keep row ≡ true → kept_in (row ∷ rows) spot ≡ row ∷ kept_in rows spot
  here row rows spot at stays =
      ap (λ b. filter keep (cond b (row ∷ spot_rows def spot rows) (spot_rows def spot rows))) (stands_there def spot row.cells at)
      ∙ ap (λ b. cond b (row ∷ kept_in rows spot) (kept_in rows spot)) stays

  abbrev in_turn : List Row → List Row
  in_turn rows = in_order (row_cmp order) rows

  -- one more row, which stands in one of the spots
  one_row : (row : Row) (rows : List Row) (spot : Spot) (spots : List Spot) → place_of def row.cells ≡ Some spot → keep row ≡ true → All (λ (other : Row). nat_cmp row.serial other.serial ≡ Less) rows
      → AllPairs (λ (a b : Spot). a ≢ b) spots → Contains spots spot → in_turn (flat_map (kept_in (row ∷ rows)) spots) ≡ put_in (row_cmp order) row (in_turn (flat_map (kept_in rows) spots))
  one_row row rows spot [] at stays later apart h = absurd (let within = h.1 in omega (arith, within))
  one_row row rows spot (s ∷ ss) at stays later apart (zero, within, is) =
      let others : All (λ (t : Spot). kept_in (row ∷ rows) t ≡ kept_in rows t) ss =
      All-weaker (λ (t : Spot). s ≢ t) (λ (t : Spot). kept_in (row ∷ rows) t ≡ kept_in rows t) (λ t differs. elsewhere row rows spot t at (λ same. differs (is ∙ sym same))) ss (pairs_head (λ (a b : Spot). a ≢ b) s ss apart) in
      let first : kept_in (row ∷ rows) s ≡ row ∷ kept_in rows s = here row rows s (at ∙ ap (λ t. Some t) (sym is)) stays in
      ap in_turn (ap₂ (λ (a b : List Row). a ++ b) first (flat_map_same (kept_in (row ∷ rows)) (kept_in rows) ss others))
  one_row row rows spot (s ∷ ss) at stays later apart (suc k, within, is) =
      let held : Contains ss spot = (k, omega (arith, within), is) in
      let differs : s ≢ spot = All-contains (λ (t : Spot). s ≢ t) ss spot (pairs_head (λ (a b : Spot). a ≢ b) s ss apart) held in
      let rest = one_row row rows spot ss at stays later (pairs_tail (λ (a b : Spot). a ≢ b) s ss apart) held in
      let free : All (λ (other : Row). (is_eq (row_cmp order other row) ≡ false) × (is_eq (row_cmp order row other) ≡ false)) (kept_in rows s) =
      All-filter keep (λ (other : Row). (is_eq (row_cmp order other row) ≡ false) × (is_eq (row_cmp order row other) ≡ false)) (spot_rows def s rows)
      (All-filter (is_at def s) (λ (other : Row). (is_eq (row_cmp order other row) ≡ false) × (is_eq (row_cmp order row other) ≡ false)) rows
      (All-weaker (λ (other : Row). nat_cmp row.serial other.serial ≡ Less) (λ (other : Row). (is_eq (row_cmp order other row) ≡ false) × (is_eq (row_cmp order row other) ≡ false)) (λ other less. untied order row other less) rows later)) in
      ap (λ (a : List Row). in_turn (a ++ flat_map (kept_in (row ∷ rows)) ss)) (elsewhere row rows spot s at differs)
      ∙ put_last (row_cmp order) (row_total order) row (kept_in rows s) (flat_map (kept_in (row ∷ rows)) ss) (flat_map (kept_in rows) ss) free rest

  -- where each row that is kept stands in one of the spots, the spots' rows are in order those of the table
  in_spots : (spots : List Spot) → AllPairs (λ (a b : Spot). a ≢ b) spots → ((row : Row) → keep row ≡ true → (spot : Spot) × (place_of def row.cells ≡ Some spot) × Contains spots spot)
      → (rows : List Row) → AreRising rows → in_turn (flat_map (kept_in rows) spots) ≡ in_turn (filter keep rows)
  in_spots spots apart stand [] up = ap in_turn (flat_map_none (kept_in []) spots (λ spot. refl))
  in_spots spots apart stand (row ∷ rows) up = by (keep row) refl (in_spots spots apart stand rows (behind row rows up))
    where
      by : (b : Bool) → keep row ≡ b → in_turn (flat_map (kept_in rows) spots) ≡ in_turn (filter keep rows)
          → in_turn (flat_map (kept_in (row ∷ rows)) spots) ≡ in_turn (cond b (row ∷ filter keep rows) (filter keep rows))
      by true e rest =
          let s = stand row e in
          one_row row rows s.0 spots s.1 e (first_serial row rows up) apart s.2 ∙ ap (put_in (row_cmp order) row) rest
      by false e rest =
          ap in_turn (flat_map_same (kept_in (row ∷ rows)) (kept_in rows) spots (λ k d below. left_out row rows (get_or spots k d) e)) ∙ rest

-- ---- those of a statement

module _ (def : TableDef) (parts : Option (List (List ℕ))) (tail : Tail) (valid : IsValid def) where
  -- a row that is taken stands in a spot that is read
  taken_there : (row : Row) → is_wanted def parts tail.cond row ≡ true → (spot : Spot) × (place_of def row.cells ≡ Some spot) × Contains (spots_read def parts) spot
  taken_there row taken = by (place_of def row.cells) refl (and_parts (is_in_parts def parts row.cells) (passes def.columns tail.cond row.cells) taken).0
    where
      by : (o : Option Spot) → place_of def row.cells ≡ o → option_map_or (is_named_spot def parts) o false ≡ true → (spot : Spot) × (place_of def row.cells ≡ Some spot) × Contains (spots_read def parts) spot
      by None at named = cc
      by (Some spot) at named = (spot, at, contains_filter (is_named_spot def parts) (spots_of def) spot named (spot_listed def spot (placed_spot def valid row.cells spot at)))

  pub collected : (rows : List Row) → AreRising rows
      → arranged def.columns tail (flat_map (wanted_in def parts tail.cond rows) (spots_read def parts)) ≡ candidates def parts tail rows
  collected rows up =
      ap (cut tail.limit)
      (in_spots def (is_wanted def parts tail.cond) (order_of def.columns tail.order) (spots_read def parts)
      (AllPairs-filter (λ (a b : Spot). a ≢ b) (is_named_spot def parts) (spots_of def) (spots_apart def)) taken_there rows up)
