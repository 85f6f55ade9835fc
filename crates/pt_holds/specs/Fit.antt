-- Rows that a table may have.
use Rattle.std.specs.Prelude.{◌≡◌, ℕ, ◌<◌, false, Some}
use Rattle.pt_ast.specs.declared.database.Row.{Row}
use Rattle.pt_ast.specs.declared.database.Spot.{Spot}
use Rattle.pt_ast.specs.declared.table.TableDef.{TableDef}
use Rattle.pt_expr.specs.Columns.{AreFitting}
use Rattle.pt_place.specs.Place.{place_of}
use Rattle.pt_db.specs.Sound.{has_wrong_null}

-- A cell for each column, which fits its kind, and no NULL where none may be.
pub record FitsColumns (def : TableDef) (row : Row) : Type 0 where
  pub cells : AreFitting def.columns row.cells
  pub nulls : has_wrong_null def.columns row.cells ≡ false

-- The row fits the columns, is placed in this spot, and has a serial below the next one.
pub record FitsSpot (next : ℕ) (def : TableDef) (spot : Spot) (row : Row) : Type 0 where
  pub columns : FitsColumns def row
  pub placed : place_of def row.cells ≡ Some spot
  pub below : row.serial < next
