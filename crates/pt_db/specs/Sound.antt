-- What holds of every database. MySQL 5.7 manual, section 13.1.18, "CREATE TABLE Syntax": a column that is NOT NULL has no NULL, and no
-- two rows agree on a unique key.
use Rattle.std.specs.Prelude.{◌≡◌, ℕ, ◌<◌, ◌≤◌, ◌^◌, Bool, false, ◌&&◌, ◌||◌, List, ◌∷◌, All, Some, IsSome, Ok}
use Rattle.pt_value.specs.Ident.{IsIdent}
use Rattle.pt_value.specs.declared.value.Value.{Value}
use Rattle.pt_ast.specs.declared.database.Db.{Db}
use Rattle.pt_ast.specs.declared.database.Row.{Row}
use Rattle.pt_ast.specs.declared.database.Table.{Table}
use Rattle.pt_ast.specs.declared.table.Column.{Column}
use Rattle.pt_ast.specs.declared.table.TableDef.{TableDef}
use Rattle.pt_ast.specs.Keys.{AreUnique, is_null}
use Rattle.pt_ast.specs.Rising.{NamesRise}
use Rattle.pt_ast.specs.StorableDef.{IsStorableDef}
use Rattle.pt_expr.specs.Columns.{AreFitting}
use Rattle.pt_place.specs.Place.{place_of}
use Rattle.pt_place.specs.Valid.{IsValid}
use Rattle.pt_db.specs.Lookup.{table_of}
use Rattle.pt_db.specs.Outcome.{Change, Outcome}
use Rattle.pt_db.specs.Rows.{AreRising, row_at}

-- NULL stands in a column that is NOT NULL
abbrev pub has_wrong_null : List Column → List Value → Bool
has_wrong_null (column ∷ columns) (cell ∷ cells) = column.not_null && is_null cell || has_wrong_null columns cells
has_wrong_null _ _ = false

-- A row has a cell for each column, which fits its kind, and no NULL where none may be; a place; and a serial, from 1 to below the
-- next one.
pub record IsSoundRow (next : ℕ) (def : TableDef) (row : Row) : Type 0 where
  pub fits : AreFitting def.columns row.cells
  pub nulls : has_wrong_null def.columns row.cells ≡ false
  pub placed : IsSome (place_of def row.cells)
  pub least : 0 < row.serial
  pub below : row.serial < next

-- What holds of a table's rows beside its definition: no two agree on a unique key, and their serials rise.
pub record AreSoundRows (next : ℕ) (def : TableDef) (rows : List Row) : Type 0 where
  pub each : All (IsSoundRow next def) rows
  pub unique : AreUnique def rows
  pub rising : AreRising rows

pub record IsSoundTable (next : ℕ) (table : Table) : Type 0 where
  pub name : IsIdent table.name
  pub storable : IsStorableDef table.def
  pub valid : IsValid table.def
  pub rows : AreSoundRows next table.def table.rows

-- Each table is so, their names rise, two tables that have a row of one serial are one table, and the next serial is from 1 to 2^62.
pub record IsSound (db : Db) : Type 0 where
  pub tables : All (IsSoundTable db.next) db.tables
  pub rising : NamesRise db.tables
  pub once : (a b : Table) (serial : ℕ) → table_of db a.name ≡ Some a → table_of db b.name ≡ Some b
      → IsSome (row_at a.rows serial) → IsSome (row_at b.rows serial) → a.name ≡ b.name
  pub some : 0 < db.next
  pub most : db.next ≤ 2 ^ 62

-- what a statement leaves is sound
abbrev pub KeepsSound : Outcome → Type 0
KeepsSound outcome = (change : Change) → outcome ≡ Ok change → IsSound change.db
