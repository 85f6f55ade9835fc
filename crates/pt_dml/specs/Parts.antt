-- The checks of INSERT, INSERT IGNORE and REPLACE in the order of their code: those that look at the statement and the definition alone, and
-- then each row's, first by itself and then beside the rows so far. They come to what the model says (`Rattle.pt_dml.proofs.Models`).
use Rattle.std.specs.Prelude.{◌≡◌, ℕ, List, false, Option, Some, None, Result, Ok, Err, if◌then◌else◌}
use Rattle.pt_value.specs.declared.value.Value.{Value}
use Rattle.pt_ast.specs.declared.database.Spot.{Spot}
use Rattle.pt_ast.specs.declared.table.TableDef.{TableDef}
use Rattle.pt_ast.specs.declared.statement.NewRows.{NewRows}
use Rattle.pt_ast.specs.declared.statement.ValueSpec.{ValueSpec}
use Rattle.pt_ast.specs.declared.refusal.Refusal.{Refusal}
use Rattle.pt_ast.specs.declared.refusal.Refusal.TheVariants as refusal
use Rattle.pt_ast.specs.Keys.{is_taken}
use Rattle.pt_expr.specs.Columns.{AreFitting}
use Rattle.pt_place.specs.Place.{place_of}
use Rattle.pt_checks.specs.Cells.{cells_of}
use Rattle.pt_checks.specs.Named.{bad_columns, bad_parts, targets}
use Rattle.pt_checks.specs.Wanted.{is_named_spot}
use Rattle.pt_db.specs.Outcome.{passed, refused_by, refused_where}
use Rattle.pt_db.specs.Sound.{has_wrong_null}
use Rattle.pt_flat.specs.declared.filling.Filling.{Filling}
use Rattle.pt_flat.specs.declared.filling.InsertMode.{InsertMode}
use Rattle.pt_flat.specs.declared.filling.InsertMode.TheVariants as mode
use Rattle.pt_flat.specs.Insert.{add_cells, with_deleted, with_skipped}

-- 43, 41; 12, 13; then which columns the values of a row are for
abbrev pub checked : TableDef → NewRows → Result (List ℕ) Refusal
checked def new =
    refused_by (bad_parts def new.table new.parts)
    (refused_by (bad_columns def new.columns)
    (Ok (targets def new.columns)))

-- ---- a row by itself

-- IGNORE passes over a row for this, and the others refuse the statement
abbrev pub skipped_by : {X : Type 0} → InsertMode → Refusal → Result (Option X) Refusal
skipped_by mode.Skip why = Ok None
skipped_by mode.Refuse why = Err why
skipped_by mode.Replace why = Err why

-- 40 and 42
abbrev pub spot_of : InsertMode → TableDef → NewRows → ℕ → List Value → Option Spot → Result (Option (Spot × List Value)) Refusal
spot_of how def new number cells None = skipped_by how (refusal.NoPartition number)
spot_of how def new number cells (Some spot) =
    if is_named_spot def new.parts spot then Ok (Some (spot, cells)) else skipped_by how (refusal.NotInGivenSet number)

-- the cells of a row with 18, 12, 14, 15, 16 and 17; then 40 and 42
abbrev pub placed_row : InsertMode → TableDef → NewRows → ℕ → List ValueSpec → Result (Option (Spot × List Value)) Refusal
placed_row how def new number values =
    passed (cells_of def (targets def new.columns) number values) (λ cells. spot_of how def new number cells (place_of def cells))

-- ---- and beside the rows so far

-- 19, and 55
abbrev pub with_row : InsertMode → TableDef → ℕ → Filling → List Value → Result Filling Refusal
with_row mode.Refuse def number filling cells =
    refused_where (is_taken def cells filling.rows) (refusal.DuplicateKey number) (add_cells number cells filling)
with_row mode.Skip def number filling cells = if is_taken def cells filling.rows then Ok (with_skipped filling) else add_cells number cells filling
with_row mode.Replace def number filling cells = add_cells number cells (with_deleted def cells filling)

-- a row that was placed, or that was passed over
abbrev pub with_placed : InsertMode → TableDef → ℕ → Filling → Option (Spot × List Value) → Result Filling Refusal
with_placed how def number filling None = Ok (with_skipped filling)
with_placed how def number filling (Some placed) = with_row how def number filling placed.1

-- ---- what the code knows

-- Cells that a row may have, and its spot.
pub record IsPlaced (def : TableDef) (spot : Spot) (cells : List Value) : Type 0 where
  pub placed : place_of def cells ≡ Some spot
  pub fits : AreFitting def.columns cells
  pub nulls : has_wrong_null def.columns cells ≡ false

-- so has a row that isn't passed over
abbrev pub IsPlacedRow : TableDef → Option (Spot × List Value) → Type 0
IsPlacedRow def None = Unit {0}
IsPlacedRow def (Some placed) = IsPlaced def placed.0 placed.1
