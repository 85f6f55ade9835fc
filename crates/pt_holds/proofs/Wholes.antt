-- An unpartitioned table has one spot, where all its rows are.
use Rattle.std.proofs.Common.{◌≡◌, ℕ, false, cond, List, [], ◌∷◌, length, Option, Some, refl, ap, ap₂, ◌∙◌, subst, arith}
use Rattle.std.specs.Option.{option_map, option_map_or}
use Rattle.pt_value.specs.declared.value.Value.{Value}
use Rattle.pt_ast.specs.declared.database.Row.{Row}
use Rattle.pt_ast.specs.declared.database.Spot.{Spot}
use Rattle.pt_ast.specs.declared.table.PartBy.TheVariants as by
use Rattle.pt_ast.specs.declared.table.TableDef.{TableDef}
use Rattle.pt_ast.specs.StorableDef.{IsStorableDef, IsWholeAlone}
use Rattle.pt_place.specs.Checks.{is_whole}
use Rattle.pt_place.specs.Place.{numbered, part_of, place_of, spot_in, subs_at}
use Rattle.pt_db.specs.Rows.{is_spot, spot_rows}
use Rattle.pt_db.specs.Spots.{IsSpotOf, spot_at}

-- the one spot
abbrev pub first : Spot
first = spot_at 0 0

module _ (def : TableDef) (storable : IsStorableDef def) (whole : def.by ≡ by.Whole) where
  no_subs : def.sub ≡ by.Whole
  no_subs = (subst (λ kind. IsWholeAlone kind def.sub def.parts) whole storable.alone).0

  one_part : (n : ℕ) → cond (is_whole def.by) 1 n ≡ 1
  one_part n = ap (λ kind. cond (is_whole kind) 1 n) whole

  one_sub : (n : ℕ) → cond (is_whole def.sub) 1 n ≡ 1
  one_sub n = ap (λ kind. cond (is_whole kind) 1 n) no_subs

  pub whole_first : IsSpotOf def first
  whole_first = record { part = omega (arith, one_part (length def.parts)); sub = omega (arith, one_sub (length (subs_at def.parts 0))) }

  pub whole_spot : (spot : Spot) → IsSpotOf def spot → spot ≡ first
  whole_spot spot is =
      let part = is.part in
      let sub = is.sub in
      ap₂ spot_at (omega (arith, part, one_part (length def.parts))) (omega (arith, sub, one_sub (length (subs_at def.parts spot.part))))

  whole_place : (cells : List Value) → place_of def cells ≡ Some first
  whole_place cells =
      ap (λ kind. option_map (spot_in def cells) (part_of def.columns kind def.parts cells)) whole
      ∙ ap (λ kind. Some (spot_at 0 (numbered def.columns kind (length (subs_at def.parts 0)) cells))) no_subs

  pub whole_rows : (rows : List Row) → spot_rows def first rows ≡ rows
  whole_rows [] = refl
  whole_rows (row ∷ rows) =
      ap (λ (o : Option Spot). cond (option_map_or (is_spot first) o false) (row ∷ spot_rows def first rows) (spot_rows def first rows)) (whole_place row.cells)
      ∙ ap (λ (rest : List Row). row ∷ rest) (whole_rows rows)
