-- Rows that are updated one after the other.
use Rattle.std.specs.Prelude.{ℕ, ◌<◌, List, IsSome}
use Rattle.pt_ast.specs.declared.database.Row.{Row}
use Rattle.pt_ast.specs.declared.table.TableDef.{TableDef}
use Rattle.pt_db.specs.Rows.{row_at}
use Rattle.pt_db.specs.Sound.{AreSoundRows}
use Rattle.pt_flat.specs.declared.updating.Updating.{Updating}

-- what holds of the rows so far, of a table that had these before
pub record IsSoundUpdating (next : ℕ) (def : TableDef) (before : List Row) (updating : Updating) : Type 0 where
  pub rows : AreSoundRows next def updating.rows
  pub old : (serial : ℕ) → IsSome (row_at updating.rows serial) → IsSome (row_at before serial)

-- what holds of the counts before the row of a number
pub record IsMatched (number : ℕ) (updating : Updating) : Type 0 where
  pub matched : updating.matched < number
  pub changed : updating.changed < number
