-- What rows by spot are to a table that gets them.
use Rattle.std.proofs.Common.{◌≡◌, ◌≢◌, zero, suc, ◌<◌, Bool, true, false, cond, List, [], ◌∷◌, length, map, get_or, Option, Some, refl, sym, ap, subst, ◌∙◌, arith, Ordering, Less, is_gt}
use Rattle.std.specs.List.{All, AllByRecursion, AllPairs, Contains, find}
use Rattle.std.specs.Option.{option_map}
use Rattle.std.specs.Ordering.{nat_cmp}
use Rattle.std.proofs.lemmas.List.{get_or-map, length-map}
use Rattle.std.proofs.lemmas.List.Elements.{All-cons, All-filter, All-head, All-map, All-tail}
use Rattle.std.proofs.lemmas.Map.Keys.{sorted_head, sorted_tail}
use Rattle.pt_ast.specs.declared.database.Row.{Row}
use Rattle.pt_ast.specs.declared.database.Spot.{Spot}
use Rattle.pt_ast.specs.declared.table.TableDef.{TableDef}
use Rattle.pt_checks.specs.Ordered.{in_order, put_in}
use Rattle.pt_db.specs.Rows.{AreRising, is_at, is_spot, spot_rows}
use Rattle.pt_db.specs.Spots.{IsSpotOf, spots_of}
use Rattle.pt_db.proofs.SpotLists.{spot_listed, spots_apart, spots_each}
use Rattle.pt_db.proofs.Spots.{spot_itself, spot_same}
use Rattle.pt_spread.specs.Spread.{by_serial, rows_by_spot}

-- ---- rows in order

abbrev row_cmp : Row → Row → Ordering
row_cmp a b = nat_cmp a.serial b.serial

module _ (P : Row → Type 0) where
  put_all : (x : Row) (ys : List Row) → P x → All P ys → All P (put_in row_cmp x ys)
  put_all x [] here all = All-cons P x [] here all
  put_all x (y ∷ ys) here all = by (is_gt (row_cmp x y)) (put_all x ys here (All-tail P y ys all))
    where
      by : (t : Bool) → All P (put_in row_cmp x ys) → All P (cond t (y ∷ put_in row_cmp x ys) (x ∷ y ∷ ys))
      by true rest = All-cons P y (put_in row_cmp x ys) (All-head P y ys all) rest
      by false rest = All-cons P x (y ∷ ys) here all

  -- what all rows have, they have by rising serial
  pub ordered_all : (rows : List Row) → All P rows → All P (by_serial rows)
  ordered_all [] all = all
  ordered_all (row ∷ rows) all = put_all row (in_order row_cmp rows) (All-head P row rows all) (ordered_all rows (All-tail P row rows all))

put_first : (row : Row) (rows : List Row) → AllByRecursion (λ n. nat_cmp row.serial n ≡ Less) (map (λ (r : Row). r.serial) rows) → put_in row_cmp row rows ≡ row ∷ rows
put_first row [] below = refl
put_first row (other ∷ rows) below = ap (λ (o : Ordering). cond (is_gt o) (other ∷ put_in row_cmp row rows) (row ∷ other ∷ rows)) below.0

-- rows whose serials rise stay as they are
pub rising_stay : (rows : List Row) → AreRising rows → by_serial rows ≡ rows
rising_stay [] up = refl
rising_stay (row ∷ rows) up =
    let serials = map (λ (r : Row). r.serial) rows in
    ap (put_in row_cmp row) (rising_stay rows (sorted_tail nat_cmp row.serial serials up))
    ∙ put_first row rows (sorted_head nat_cmp row.serial serials up)

-- ---- spot by spot

abbrev beside : TableDef → List Row → Spot → Spot × List Row
beside def rows spot = (spot, spot_rows def spot rows)

module _ (def : TableDef) (rows : List Row) where
  pub each_spot : All (λ (given : Spot × List Row). IsSpotOf def given.0) (rows_by_spot def rows)
  each_spot = All-map (λ (given : Spot × List Row). IsSpotOf def given.0) (beside def rows) (spots_of def) (spots_each def)

  pub each_row : (P : Row → Type 0) → All P rows → All (λ (given : Spot × List Row). All P given.1) (rows_by_spot def rows)
  each_row P all = All-map (λ (given : Spot × List Row). All P given.1) (beside def rows) (spots_of def) (λ k d below. All-filter (is_at def (get_or (spots_of def) k d)) P rows all)

  apart : (a b : Spot) → a ≢ b → is_spot a b ≡ false
  apart a b differ = by (is_spot a b) refl
    where
      by : (t : Bool) → is_spot a b ≡ t → t ≡ false
      by true e = absurd (differ (spot_same a b e))
      by false e = refl

  pairs_map : (spots : List Spot) → AllPairs (λ (a b : Spot). a ≢ b) spots → AllPairs (λ (a b : Spot × List Row). is_spot a.0 b.0 ≡ false) (map (beside def rows) spots)
  pairs_map spots differ i j d before below =
      let long = length-map spots (beside def rows) in
      let within : j < length spots = omega (arith, below, long) in
      let first = get_or-map (beside def rows) spots i d.0 d (omega (arith, within, before)) in
      let second = get_or-map (beside def rows) spots j d.0 d within in
      subst (λ (a : Spot × List Row). is_spot a.0 (get_or (map (beside def rows) spots) j d).0 ≡ false) (sym first)
      (subst (λ (b : Spot × List Row). is_spot (get_or spots i d.0) b.0 ≡ false) (sym second) (apart (get_or spots i d.0) (get_or spots j d.0) (differ i j d.0 before within)))

  pub each_once : AllPairs (λ (a b : Spot × List Row). is_spot a.0 b.0 ≡ false) (rows_by_spot def rows)
  each_once = pairs_map (spots_of def) (spots_apart def)

  found_among : (spot : Spot) (spots : List Spot) → Contains spots spot → find (λ (given : Spot × List Row). is_spot given.0 spot) (map (beside def rows) spots) ≡ Some (beside def rows spot)
  found_among spot [] h = absurd (let within = h.1 in omega (arith, within))
  found_among spot (s ∷ ss) h = by (is_spot s spot) refl h (found_among spot ss)
    where
      by : (t : Bool) → is_spot s spot ≡ t → Contains (s ∷ ss) spot → (Contains ss spot → find (λ (given : Spot × List Row). is_spot given.0 spot) (map (beside def rows) ss) ≡ Some (beside def rows spot))
          → cond t (Some (beside def rows s)) (find (λ (given : Spot × List Row). is_spot given.0 spot) (map (beside def rows) ss)) ≡ Some (beside def rows spot)
      by true e held more = ap (λ (own : Spot). Some (beside def rows own)) (spot_same s spot e)
      by false e (zero, within, is) more = absurd (let same : true ≡ false = sym (spot_itself spot) ∙ ap (λ (own : Spot). is_spot own spot) (sym is) ∙ e in let bad : true ≡ false = same in cc)
      by false e (suc k, within, is) more = more (k, omega (arith, within), is)

  -- the rows of a spot are those that the table has there
  pub given_there : (spot : Spot) → IsSpotOf def spot → option_map (λ (given : Spot × List Row). given.1) (find (λ (given : Spot × List Row). is_spot given.0 spot) (rows_by_spot def rows)) ≡ Some (spot_rows def spot rows)
  given_there spot is = ap (λ (o : Option (Spot × List Row)). option_map (λ (given : Spot × List Row). given.1) o) (found_among spot (spots_of def) (spot_listed def spot is))
