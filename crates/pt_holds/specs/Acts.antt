-- What acts make of the files of tables, name by name.
use Rattle.std.specs.Prelude.{◌≡◌, ◌≢◌, ℕ, List, [], All, Some, None, Ok}
use Rattle.std.specs.List.{flat_map}
use Rattle.std.specs.Option.{option_map, option_or}
use Rattle.pt_host.specs.Disk.{Files}
use Rattle.pt_names.specs.Names.{def_name}
use Rattle.pt_ast.specs.declared.database.Row.{Row}
use Rattle.pt_ast.specs.declared.database.Spot.{Spot}
use Rattle.pt_ast.specs.declared.table.TableDef.{TableDef}
use Rattle.pt_defs.specs.Reading.{def_at}
use Rattle.pt_rowfile.specs.declared.record.Record.TheVariants.{Put}
use Rattle.pt_rowfile.specs.Records.{IsRecord, record_bytes}
use Rattle.pt_db.specs.Spots.{IsSpotOf}
use Rattle.pt_holds.specs.Holds.{spot_file}
use Rattle.pt_holds.specs.Batch.{IsRowFileOf}
use Rattle.pt_holds.specs.ShapeChanges.{fresh_at}

-- The files of all other names are as before.
abbrev pub AreOthersSame : Files → Files → List ℕ → TableDef → Type 0
AreOthersSame map next name def = (file : List ℕ) → file ≢ def_name name → (IsRowFileOf name def file → ⊥) → next file ≡ map file

-- The files of a table are there: its definition, and an empty file for each spot.
pub record IsCreated (map next : Files) (name : List ℕ) (def : TableDef) : Type 0 where
  pub defined : option_map def_at (next (def_name name)) ≡ Some (Ok def)
  pub rows : (spot : Spot) → IsSpotOf def spot → next (spot_file name def spot) ≡ Some []
  pub others : AreOthersSame map next name def

-- They are gone.
pub record IsDropped (map next : Files) (name : List ℕ) (def : TableDef) : Type 0 where
  pub defined : next (def_name name) ≡ None
  pub rows : (spot : Spot) → IsSpotOf def spot → next (spot_file name def spot) ≡ None
  pub others : AreOthersSame map next name def

-- the puts of rows, one after the other
abbrev pub rows_text : List Row → List ℕ
rows_text rows = flat_map (λ row. record_bytes (Put row)) rows

-- rows whose puts can be written
abbrev pub AreRecords : Spot × List Row → Type 0
AreRecords given = All (λ row. IsRecord (Put row)) given.1

-- The file of each spot whose rows are given has their puts, in their order, and nothing else.
abbrev pub HasGiven : Files → List ℕ → TableDef → List (Spot × List Row) → Type 0
HasGiven map name def fresh = (spot : Spot) (rows : List Row) → IsSpotOf def spot → fresh_at fresh spot ≡ Some rows → map (spot_file name def spot) ≡ Some (rows_text rows)

-- A table has another definition. The file of a spot whose rows are given has their puts, that of any other spot stays, and a row file
-- of the old definition that the other one doesn't have is gone.
pub record IsRefiled (map next : Files) (name : List ℕ) (old def : TableDef) (fresh : List (Spot × List Row)) : Type 0 where
  pub defined : option_map def_at (next (def_name name)) ≡ Some (Ok def)
  pub rows : (spot : Spot) → IsSpotOf def spot → next (spot_file name def spot) ≡ option_or (option_map rows_text (fresh_at fresh spot)) (map (spot_file name def spot))
  pub gone : (file : List ℕ) → IsRowFileOf name old file → (IsRowFileOf name def file → ⊥) → next file ≡ None
  pub others : (file : List ℕ) → file ≢ def_name name → (IsRowFileOf name old file → ⊥) → (IsRowFileOf name def file → ⊥) → next file ≡ map file

-- Two files have each other's bytes.
pub record IsExchanged (map next : Files) (a b : List ℕ) : Type 0 where
  pub there : next a ≡ map b
  pub back : next b ≡ map a
  pub others : (file : List ℕ) → file ≢ a → file ≢ b → next file ≡ map file
