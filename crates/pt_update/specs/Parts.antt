-- The checks of UPDATE in the order of its code: what a row is given by itself, and then what it meets beside the other rows. They come
-- to what the model says (`Rattle.pt_update.proofs.ModelRows`).
use Rattle.std.specs.Prelude.{◌≡◌, ℕ, not, false, List, Option, Some, None, Result, Ok, if◌then◌else◌}
use Rattle.pt_value.specs.declared.value.Value.{Value}
use Rattle.pt_ast.specs.declared.database.Row.{Row}
use Rattle.pt_ast.specs.declared.database.Spot.{Spot}
use Rattle.pt_ast.specs.declared.table.TableDef.{TableDef}
use Rattle.pt_ast.specs.declared.statement.ValueSpec.{ValueSpec}
use Rattle.pt_ast.specs.declared.refusal.Refusal.{Refusal}
use Rattle.pt_ast.specs.declared.refusal.Refusal.TheVariants as refusal
use Rattle.pt_ast.specs.Keys.{is_taken}
use Rattle.pt_expr.specs.Columns.{AreFitting}
use Rattle.pt_place.specs.Place.{place_of}
use Rattle.pt_checks.specs.Assigned.{are_same, updated_cells}
use Rattle.pt_checks.specs.Wanted.{is_named_spot}
use Rattle.pt_db.specs.Outcome.{found, passed, refused_where}
use Rattle.pt_db.specs.Rows.{others}
use Rattle.pt_db.specs.Sound.{has_wrong_null}
use Rattle.pt_flat.specs.declared.updating.Updating.{Updating}
use Rattle.pt_flat.specs.Update.{with_updated}

-- 40 and 42
abbrev pub placed_cells : TableDef → Option (List (List ℕ)) → ℕ → List Value → Result (Option (Spot × List Value)) Refusal
placed_cells def parts number cells =
    found (place_of def cells) (refusal.NoPartition number) (λ spot.
    refused_where (not (is_named_spot def parts spot)) (refusal.NotInGivenSet number)
    (Ok (Some (spot, cells))))

-- these of new cells; none of them where each value is as it was
abbrev pub changed_cells : TableDef → Option (List (List ℕ)) → ℕ → List Value → List Value → Result (Option (Spot × List Value)) Refusal
changed_cells def parts number old cells = if are_same old cells then Ok None else placed_cells def parts number cells

-- 16 and 17 first
abbrev pub moved_row : TableDef → Option (List (List ℕ)) → List (List ℕ × ValueSpec) → ℕ → List Value → Result (Option (Spot × List Value)) Refusal
moved_row def parts assigns number old = passed (updated_cells def assigns number old) (changed_cells def parts number old)

-- 19, beside the other rows as they are then
abbrev pub with_moved : TableDef → ℕ → Updating → Row → List Value → Result Updating Refusal
with_moved def number updating row cells =
    refused_where (is_taken def cells (others row.serial updating.rows)) (refusal.DuplicateKey number)
    (Ok (with_updated row cells updating))

-- Cells that a row may have, and their spot.
pub record IsPlacedIn (def : TableDef) (spot : Spot) (cells : List Value) : Type 0 where
  pub placed : place_of def cells ≡ Some spot
  pub fits : AreFitting def.columns cells
  pub nulls : has_wrong_null def.columns cells ≡ false
