-- Rows that are inserted one after the other.
use Rattle.std.specs.Prelude.{ℕ, ◌+◌, ◌<◌, ◌≤◌, ◌^◌, length, IsSome}
use Rattle.pt_ast.specs.declared.table.TableDef.{TableDef}
use Rattle.pt_db.specs.Rows.{row_at}
use Rattle.pt_db.specs.Sound.{AreSoundRows}
use Rattle.pt_flat.specs.declared.filling.Filling.{Filling}

-- what holds of the rows so far
pub record IsSoundFilling (def : TableDef) (filling : Filling) : Type 0 where
  pub rows : AreSoundRows filling.next def filling.rows
  pub counted : filling.added < filling.next
  pub most : filling.next ≤ 2 ^ 62

-- Later rows are some of the earlier ones, and such as have taken later serials.
pub record IsGrown (before later : Filling) : Type 0 where
  pub next : before.next ≤ later.next
  pub old : (serial : ℕ) → serial < before.next → IsSome (row_at later.rows serial) → IsSome (row_at before.rows serial)

-- What holds of the counts before the row of a number: each row, there or deleted, has had a serial of its own, and each row that was passed
-- over a number.
pub record IsCounted (number : ℕ) (filling : Filling) : Type 0 where
  pub few : filling.deleted + length filling.rows < filling.next
  pub skipped : filling.skipped < number
