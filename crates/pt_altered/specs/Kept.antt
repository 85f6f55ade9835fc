-- For the code: what makes a table's later definition and rows sound. Nothing public cites it.
use Rattle.std.specs.Prelude.{◌≡◌, ℕ, List, Some, IsSome}
use Rattle.pt_ast.specs.declared.database.Db.{Db}
use Rattle.pt_ast.specs.declared.database.Row.{Row}
use Rattle.pt_ast.specs.declared.database.Table.{Table}
use Rattle.pt_ast.specs.declared.table.TableDef.{TableDef}
use Rattle.pt_ast.specs.StorableDef.{IsStorableDef}
use Rattle.pt_place.specs.Valid.{IsValid}
use Rattle.pt_db.specs.Lookup.{table_of}
use Rattle.pt_db.specs.Rows.{row_at}
use Rattle.pt_db.specs.Sound.{AreSoundRows}

-- The rows are sound by the definition, which is so itself, and each serial is that of a row that the table had.
pub record IsKeptOf (db : Db) (name : List ℕ) (def : TableDef) (rows : List Row) : Type 0 where
  pub table : Table
  pub at : table_of db name ≡ Some table
  pub storable : IsStorableDef def
  pub valid : IsValid def
  pub sound : AreSoundRows db.next def rows
  pub old : (serial : ℕ) → IsSome (row_at rows serial) → IsSome (row_at table.rows serial)
