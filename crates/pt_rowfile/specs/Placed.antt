-- Where the row of a serial was put. docs/FILES.md, "Row files".
use Rattle.std.specs.Prelude.{◌≡◌, ℕ, ◌+◌, ◌==◌, if◌then◌else◌, List, [], ◌∷◌, length, Option, Some, None}
use Rattle.std.specs.List.{flat_map, AllByRecursion}
use Rattle.pt_ast.specs.declared.database.Row.{Row}
use Rattle.pt_rowfile.specs.declared.record.Record.{Record}
use Rattle.pt_rowfile.specs.declared.record.Record.TheVariants.{Put, Delete}
use Rattle.pt_rowfile.specs.Records.{IsRecord, record_bytes}
use Rattle.pt_rowfile.specs.Rows.{SpellsRows}

-- The place of the row of this serial after a record that begins `here`: a put of the serial puts it here, a delete of the serial
-- takes it away, and other records leave it.
abbrev pub place_after : ℕ → Record → ℕ → Option ℕ → Option ℕ
place_after serial (Put row) here place = if row.serial == serial then Some here else place
place_after serial (Delete other) here place = if other == serial then None else place

-- the place of that row after records, the first of which begins `here`
abbrev pub place_left : ℕ → List Record → ℕ → Option ℕ → Option ℕ
place_left serial [] here place = place
place_left serial (entry ∷ entries) here place = place_left serial entries (here + length (record_bytes entry)) (place_after serial entry here place)

-- These bytes are records that are all proper.
pub record IsRowFile (bytes : List ℕ) : Type 0 where
  pub rows : List Row
  pub spells : SpellsRows bytes rows

-- The row of this serial that the records of these bytes leave was put by the record at this place. None where they leave none.
pub record IsPlaceOf (bytes : List ℕ) (serial : ℕ) (place : Option ℕ) : Type 0 where
  pub records : List Record
  pub each : AllByRecursion IsRecord records
  pub text : bytes ≡ flat_map record_bytes records
  pub last : place ≡ place_left serial records 0 None
