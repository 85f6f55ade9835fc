-- What a change of rows adds to files. docs/FILES.md, "Row files" and "The counter".
use Rattle.std.specs.Prelude.{◌≡◌, ◌≢◌, ◌⊎◌, ℕ, ◌<◌, ◌^◌, List, [], ◌++◌, map, filter, length, All, AllPairs}
use Rattle.std.specs.List.{flat_map, AllByRecursion}
use Rattle.pt_host.specs.Listed.{FileList}
use Rattle.pt_bytes.specs.Numbers.{le_bytes}
use Rattle.pt_names.specs.Names.{serials_name}
use Rattle.pt_ast.specs.declared.database.Row.{Row}
use Rattle.pt_ast.specs.declared.database.Spot.{Spot}
use Rattle.pt_ast.specs.declared.table.TableDef.{TableDef}
use Rattle.pt_rowfile.specs.declared.record.Record.{Record}
use Rattle.pt_rowfile.specs.declared.record.Record.TheVariants.{Put, Delete}
use Rattle.pt_rowfile.specs.Records.{IsRecord, record_bytes}
use Rattle.pt_store.specs.Batch.{added_to}
use Rattle.pt_db.specs.Rows.{is_spot}
use Rattle.pt_db.specs.Spots.{IsSpotOf}
use Rattle.pt_holds.specs.Holds.{spot_file}
use Rattle.pt_holds.specs.declared.change.RowChange.{RowChange}

-- those of a spot
abbrev pub deletes_in : Spot → List (Spot × ℕ) → List (Spot × ℕ)
deletes_in spot deletes = filter (λ delete. is_spot spot delete.0) deletes

abbrev pub puts_in : Spot → List (Spot × Row) → List (Spot × Row)
puts_in spot puts = filter (λ put. is_spot spot put.0) puts

-- the deletes, and then the puts
abbrev pub records_of : List (Spot × ℕ) → List (Spot × Row) → List Record
records_of deletes puts = map (λ delete. Delete delete.1) deletes ++ map (λ put. Put put.1) puts

-- the records that a change adds to the file of a spot
abbrev pub records_in : Spot → RowChange → List Record
records_in spot change = records_of (deletes_in spot change.deletes) (puts_in spot change.puts)

-- a file of the rows of a table with this definition
abbrev pub IsRowFileOf : List ℕ → TableDef → List ℕ → Type 0
IsRowFileOf name def file = (spot : Spot) × IsSpotOf def spot × (file ≡ spot_file name def spot)

-- The batch adds to each spot's file the records of that spot, to the counter the next serial, and to other files nothing. Each
-- file stands in it once.
pub record IsBatchOf (batch : FileList) (def : TableDef) (change : RowChange) : Type 0 where
  pub rows : (spot : Spot) → IsSpotOf def spot → added_to batch (spot_file change.table def spot) ≡ flat_map record_bytes (records_in spot change)
  pub proper : (spot : Spot) → IsSpotOf def spot → AllByRecursion IsRecord (records_in spot change)
  pub counter : added_to batch serials_name ≡ le_bytes 8 change.next
  pub others : (file : List ℕ) → file ≢ serials_name → (IsRowFileOf change.table def file → ⊥) → added_to batch file ≡ []
  pub once : AllPairs (λ a b. a.0 ≢ b.0) batch
  pub each : All (λ part. (part.0 ≡ serials_name) ⊎ IsRowFileOf change.table def part.0) batch
  pub few : length batch < 2 ^ 32
