-- A row stays placed where the partition that takes it is one of the later partitions.
use Rattle.std.proofs.Common.{◌≡◌, ℕ, zero, suc, ◌+◌, ◌<◌, Bool, true, false, not, cond, List, [], ◌∷◌, length, map, get_or, Option, Some, None, IsSome, ℤ, refl, sym, subst, arith}
use Rattle.std.specs.Option.{option_map}
use Rattle.std.specs.List.{Contains, position, position_or_len}
use Rattle.std.proofs.lemmas.Bool.{lt-ltb}
use Rattle.std.proofs.lemmas.List.Quantifiers.{position-Some}
use Rattle.pt_value.specs.declared.value.Value.{Value}
use Rattle.pt_value.specs.declared.value.Value.TheVariants.{Int}
use Rattle.pt_ast.specs.declared.table.Bound.TheVariants.{Val}
use Rattle.pt_ast.specs.declared.table.Column.{Column}
use Rattle.pt_ast.specs.declared.table.PartBy.{PartBy}
use Rattle.pt_ast.specs.declared.table.PartBy.TheVariants as by
use Rattle.pt_ast.specs.declared.table.PartDef.{PartDef}
use Rattle.pt_ast.specs.declared.table.TableDef.{TableDef}
use Rattle.pt_ast.specs.declared.database.Spot.{Spot}
use Rattle.pt_ast.specs.Bounds.{cells_at, value_of}
use Rattle.pt_ast.specs.Ranges.{is_above, range_part}
use Rattle.pt_ast.specs.Lists.{has_tuple}
use Rattle.pt_place.specs.Place.{number_of, part_of, place_of, spot_in}

-- ---- the first that passes

module _ {X : Type 0} (p : X → Bool) where
  first_below : (xs : List X) (k : ℕ) (d : X) → k < length xs → p (get_or xs k d) ≡ true → position_or_len p xs < length xs
  first_below [] k d within is = absurd (omega (arith, within))
  first_below (x ∷ xs) zero d within is = by (p x) is
    where
      by : (t : Bool) → t ≡ true → cond (not t) (1 + position_or_len p xs) 0 < suc (length xs)
      by true e = omega arith
      by false e = let bad : false ≡ true = e in cc
  first_below (x ∷ xs) (suc k) d within is =
      let below = first_below xs k d (omega (arith, within)) is in
      by (p x) below
    where
      by : (t : Bool) → position_or_len p xs < length xs → cond (not t) (1 + position_or_len p xs) 0 < suc (length xs)
      by true below = omega arith
      by false below = omega (arith, below)

  some_position : (xs : List X) (k : ℕ) (d : X) → k < length xs → p (get_or xs k d) ≡ true → IsSome (position p xs)
  some_position xs k d within is = rw (lt-ltb (position_or_len p xs) (length xs) (first_below xs k d within is)) refl

  -- the later list has the element that passes
  still_first : (xs ys : List X) (i : ℕ) → position p xs ≡ Some i → ((d : X) → i < length xs → Contains ys (get_or xs i d)) → IsSome (position p ys)
  still_first [] ys i at kept = let none : None ≡ Some i = at in cc
  still_first (x ∷ xs) ys i at kept =
      let first = position-Some p (x ∷ xs) i x at in
      let there = kept x first.0 in
      some_position ys there.0 (get_or (x ∷ xs) i x) there.1 (subst (λ (y : X). p y ≡ true) (sym there.2) first.1)

-- ---- the partition

range_stays : (parts later : List PartDef) (number : Option ℤ) (i : ℕ) → range_part parts number ≡ Some i → ((d : PartDef) → i < length parts → Contains later (get_or parts i d)) → IsSome (range_part later number)
range_stays [] later None i at kept = let none : None ≡ Some i = at in cc
range_stays (part ∷ parts) [] None i at kept =
    let zero : 0 ≡ i = some at in
    let there = kept part (omega (arith, zero)) in
    absurd (let below = there.1 in omega (arith, below))
  where
    some : {a b : ℕ} → Some a ≡ Some b → a ≡ b
    some e = cc
range_stays (part ∷ parts) (other ∷ later) None i at kept = refl
range_stays [] later (Some number) i at kept = let none : None ≡ Some i = at in cc
range_stays (part ∷ parts) [] (Some number) i at kept = still_first (is_above (map Val (Int number ∷ []))) (part ∷ parts) [] i at kept
range_stays (part ∷ parts) (other ∷ later) (Some number) i at kept = still_first (is_above (map Val (Int number ∷ []))) (part ∷ parts) (other ∷ later) i at kept

part_stays : (columns : List Column) (kind : PartBy) (parts later : List PartDef) (cells : List Value) (i : ℕ) → part_of columns kind parts cells ≡ Some i
    → ((d : PartDef) → i < length parts → Contains later (get_or parts i d)) → IsSome (part_of columns kind later cells)
part_stays columns by.Whole parts later cells i at kept = refl
part_stays columns (by.Range expr) parts later cells i at kept = range_stays parts later (number_of columns expr cells) i at kept
part_stays columns (by.List expr) parts later cells i at kept = still_first (has_tuple (map Val (value_of (number_of columns expr cells) ∷ []))) parts later i at kept
part_stays columns (by.RangeColumns numbers) parts later cells i at kept = still_first (is_above (map Val (cells_at cells numbers))) parts later i at kept
part_stays columns (by.ListColumns numbers) parts later cells i at kept = still_first (has_tuple (map Val (cells_at cells numbers))) parts later i at kept
part_stays columns (by.Hash linear expr) parts later cells i at kept = refl
part_stays columns (by.Key linear numbers) parts later cells i at kept = refl

-- ---- the place

module _ (def later : TableDef) (cells : List Value) where
  placed_part : (o : Option ℕ) → IsSome o → (f : ℕ → Spot) → IsSome (option_map f o)
  placed_part (Some part) some f = refl
  placed_part None some f = some

  -- one partition takes each row under HASH and KEY, and where a table is whole
  pub numbered_placed : (kind : PartBy) → later.by ≡ kind → IsSome (part_of later.columns kind later.parts cells) → IsSome (place_of later cells)
  numbered_placed kind is some =
      placed_part (part_of later.columns later.by later.parts cells) (subst (λ (own : PartBy). IsSome (part_of later.columns own later.parts cells)) (sym is) some) (spot_in later cells)

  -- the partition that takes the row is one of the later definition's
  pub stays_placed : (spot : Spot) → later.columns ≡ def.columns → later.by ≡ def.by → place_of def cells ≡ Some spot
      → ((d : PartDef) → spot.part < length def.parts → Contains later.parts (get_or def.parts spot.part d)) → IsSome (place_of later cells)
  stays_placed spot same_columns same_by at kept =
      placed_part (part_of later.columns later.by later.parts cells)
      (subst (λ (columns : List Column). IsSome (part_of columns later.by later.parts cells)) (sym same_columns)
      (subst (λ (kind : PartBy). IsSome (part_of def.columns kind later.parts cells)) (sym same_by)
      (part_stays def.columns def.by def.parts later.parts cells spot.part (in_part (part_of def.columns def.by def.parts cells) at) kept)))
      (spot_in later cells)
    where
      in_part : (o : Option ℕ) → option_map (spot_in def cells) o ≡ Some spot → o ≡ Some spot.part
      in_part (Some part) e = let same : spot_in def cells part ≡ spot = some e in subst (λ (s : Spot). Some part ≡ Some s.part) same refl
        where
          some : {a b : Spot} → Some a ≡ Some b → a ≡ b
          some e = cc
      in_part None e = let bad : None ≡ Some spot = e in cc
