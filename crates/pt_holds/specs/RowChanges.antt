-- What a change of a table's rows asks, and which database it makes of another.
use Rattle.std.specs.Prelude.{◌≡◌, ◌≢◌, ◌⊎◌, ℕ, ◌<◌, ◌≤◌, ◌^◌, Bool, true, false, ◌==◌, List, map, Option, Some, None, IsSomeAnd, All, AllPairs}
use Rattle.std.specs.List.{list_any}
use Rattle.std.specs.Option.{option_or}
use Rattle.pt_value.specs.declared.value.Value.{Value}
use Rattle.pt_ast.specs.declared.database.Db.{Db}
use Rattle.pt_ast.specs.declared.database.Row.{Row}
use Rattle.pt_ast.specs.declared.database.Spot.{Spot}
use Rattle.pt_ast.specs.declared.database.Table.{Table}
use Rattle.pt_ast.specs.declared.table.TableDef.{TableDef}
use Rattle.pt_place.specs.Place.{place_of}
use Rattle.pt_rowfile.specs.Rows.{is_serial}
use Rattle.pt_db.specs.Lookup.{filled, table_of}
use Rattle.pt_db.specs.Rows.{row_at}
use Rattle.pt_db.specs.Sound.{IsSound}
use Rattle.pt_db.specs.Spots.{IsSpotOf}
use Rattle.pt_holds.specs.Fit.{FitsColumns}
use Rattle.pt_holds.specs.declared.change.RowChange.{RowChange}

-- the rows that come
abbrev pub rows_put : List (Spot × Row) → List Row
rows_put puts = map (λ put. put.1) puts

-- a row of this serial goes
abbrev pub is_deleted : List (Spot × ℕ) → ℕ → Bool
is_deleted deletes serial = list_any (λ delete. delete.1 == serial) deletes

-- what is left of a row's cells: nothing where it goes
abbrev pub kept : {X : Type 0} → Bool → Option X → Option X
kept true cells = None
kept false cells = cells

-- the cells at a serial after deletes and then puts
abbrev pub changed_at : List (Spot × ℕ) → List (Spot × Row) → List Row → ℕ → Option (List Value)
changed_at deletes puts rows serial = option_or (row_at (rows_put puts) serial) (kept (is_deleted deletes serial) (row_at rows serial))

-- no serial twice
abbrev pub AreApart : List (Spot × ℕ) → Type 0
AreApart deletes = AllPairs (λ (a b : Spot × ℕ). a.1 ≢ b.1) deletes

abbrev pub AreOnce : List (Spot × Row) → Type 0
AreOnce puts = AllPairs (λ (a b : Spot × Row). a.1.serial ≢ b.1.serial) puts

-- nothing comes where something stays
abbrev pub AreNew : List (Spot × ℕ) → List (Spot × Row) → List Row → Type 0
AreNew deletes puts rows = (serial : ℕ) → (row_at (rows_put puts) serial ≡ None) ⊎ (kept (is_deleted deletes serial) (row_at rows serial) ≡ None)

-- ---- over every host: what a caller can show of a change of a table with this definition

pub record IsRowChange (def : TableDef) (change : RowChange) : Type 0 where
  pub deletes : All (λ delete. IsSpotOf def delete.0) change.deletes
  pub puts : All (λ put. IsSpotOf def put.0) change.puts
  pub fit : All (λ put. FitsColumns def put.1) change.puts
  pub serials : All (λ put. is_serial put.1.serial ≡ true) change.puts
  pub least : 0 < change.next
  pub most : change.next ≤ 2 ^ 62

-- ---- where a database is held

-- Each row that goes is there and is placed in its spot, and each that comes is placed in its spot.
pub record IsInPlace (change : RowChange) (table : Table) : Type 0 where
  pub deletes : All (λ delete. IsSomeAnd (row_at table.rows delete.1) (λ cells. place_of table.def cells ≡ Some delete.0)) change.deletes
  pub puts : All (λ put. place_of table.def put.1.cells ≡ Some put.0) change.puts

-- The change is in place, names no serial twice and puts no row where one stays, and it makes this database of that one, which is
-- sound: the table has these rows, and the next serial is the change's.
pub record IsChangeOf (change : RowChange) (db later : Db) : Type 0 where
  pub table : Table
  pub held : table_of db change.table ≡ Some table
  pub rows : List Row
  pub is : later ≡ filled db change.table rows change.next
  pub in_place : IsInPlace change table
  pub each : (serial : ℕ) → row_at rows serial ≡ changed_at change.deletes change.puts table.rows serial
  pub apart : AreApart change.deletes
  pub once : AreOnce change.puts
  pub new : AreNew change.deletes change.puts table.rows
  pub sound : IsSound later
