-- Which partitions stay, and so which rows keep a place.
use Rattle.std.proofs.Common.{◌≡◌, ℕ, zero, suc, ◌+◌, ◌<◌, Bool, true, false, cond, ◌||◌, List, [], ◌∷◌, ◌++◌, length, map, get_or, Option, Some, None, IsSome, refl, sym, ◌∙◌, ap, subst, arith}
use Rattle.std.specs.Prelude.{is_none, is_some}
use Rattle.std.specs.List.{All, Contains, filter, list_any}
use Rattle.std.specs.Option.{option_map_or, option_to_list}
use Rattle.std.proofs.lemmas.List.Elements.{All-cons, All-nil, Contains-append_right, Contains-get_or}
use Rattle.std.proofs.lemmas.List.{length-map}
use Rattle.std.proofs.lemmas.Option.{slice_get-get_or}
use Rattle.pt_value.specs.declared.value.Value.{Value}
use Rattle.pt_ast.specs.declared.database.Row.{Row}
use Rattle.pt_ast.specs.declared.database.Spot.{Spot}
use Rattle.pt_ast.specs.declared.refusal.Refusal.TheVariants as refusal
use Rattle.pt_ast.specs.declared.table.PartDef.{PartDef}
use Rattle.pt_ast.specs.declared.table.TableDef.{TableDef}
use Rattle.pt_place.specs.Names.{is_among}
use Rattle.pt_place.specs.Place.{is_in_set, leaf_of, part_name, place_of}
use Rattle.pt_checks.specs.Wanted.{is_in_parts, is_named_spot}
use Rattle.pt_altered.specs.Altered.{unplaced_from}

-- ---- what a filter keeps

module _ {X : Type 0} (keep : X → Bool) where
  pub kept_there : (xs : List X) (i : ℕ) (d : X) → i < length xs → keep (get_or xs i d) ≡ true → Contains (filter keep xs) (get_or xs i d)
  kept_there [] i d within is = absurd (omega (arith, within))
  kept_there (x ∷ xs) zero d within is = rw is (Contains-get_or (x ∷ filter keep xs) 0 d (omega arith))
  kept_there (x ∷ xs) (suc i) d within is = by (keep x) (kept_there xs i d (omega (arith, within)) is)
    where
      by : (t : Bool) → Contains (filter keep xs) (get_or xs i d) → Contains (cond t (x ∷ filter keep xs) (filter keep xs)) (get_or xs i d)
      by true there = Contains-append_right (x ∷ []) (filter keep xs) (get_or xs i d) there
      by false there = there

name_at : (parts : List PartDef) (i : ℕ) (d : PartDef) → get_or (map (λ (part : PartDef). part.name) parts) i d.name ≡ (get_or parts i d).name
name_at [] i d = refl
name_at (part ∷ parts) zero d = refl
name_at (part ∷ parts) (suc i) d = name_at parts i d

-- ---- the rows that have a place

pub unplaced_none : (number : ℕ) (def : TableDef) (rows : List Row) → unplaced_from number def rows ≡ None → All (λ (row : Row). IsSome (place_of def row.cells)) rows
unplaced_none number def [] none = All-nil (λ (row : Row). IsSome (place_of def row.cells))
unplaced_none number def (row ∷ rows) none = by (place_of def row.cells) refl none (unplaced_none (number + 1) def rows)
  where
    by : (o : Option Spot) → place_of def row.cells ≡ o → cond (is_none o) (Some (refusal.NoPartition number)) (unplaced_from (number + 1) def rows) ≡ None
        → (unplaced_from (number + 1) def rows ≡ None → All (λ (other : Row). IsSome (place_of def other.cells)) rows) → All (λ (other : Row). IsSome (place_of def other.cells)) (row ∷ rows)
    by (Some spot) is rest more = All-cons (λ (other : Row). IsSome (place_of def other.cells)) row rows (ap (λ (o : Option Spot). is_some o) is) (more rest)
    by None is rest more = let bad : Some (refusal.NoPartition number) ≡ None = rest in cc

-- ---- a row that is in none of the partitions

module _ (def : TableDef) (names : List (List ℕ)) (cells : List Value) (spot : Spot) (at : place_of def cells ≡ Some spot) (out : is_in_parts def (Some names) cells ≡ false) where
  spot_out : is_in_set def names spot ≡ false
  spot_out = subst (λ (o : Option Spot). option_map_or (is_named_spot def (Some names)) o false ≡ false) at out

  first_out : (own : List ℕ) (others : List (List ℕ)) (test : List ℕ → Bool) → list_any test (own ∷ others) ≡ false → test own ≡ false
  first_out own others test none = by (test own) none
    where
      by : (t : Bool) → (t || list_any test others) ≡ false → t ≡ false
      by false e = refl
      by true e = e

  pub part_out : (d : PartDef) → spot.part < length def.parts → is_among (get_or def.parts spot.part d).name names ≡ false
  part_out d within = by names spot_out
    where
      named : part_name def spot ≡ Some (get_or def.parts spot.part d).name
      named =
          let long : spot.part < length (map (λ (part : PartDef). part.name) def.parts) = subst (λ n. spot.part < n) (sym (length-map def.parts (λ (part : PartDef). part.name))) within in
          slice_get-get_or (map (λ (part : PartDef). part.name) def.parts) spot.part d.name long ∙ ap (λ n. Some n) (name_at def.parts spot.part d)

      by : (ns : List (List ℕ)) → is_in_set def ns spot ≡ false → is_among (get_or def.parts spot.part d).name ns ≡ false
      by [] e = let bad : true ≡ false = e in cc
      by (n ∷ ns) e =
          first_out (get_or def.parts spot.part d).name (option_to_list (leaf_of def spot)) (λ own. is_among own (n ∷ ns))
          (subst (λ (o : Option (List ℕ)). list_any (λ own. is_among own (n ∷ ns)) (option_to_list o ++ option_to_list (leaf_of def spot)) ≡ false) named e)
