-- The records of a row file. docs/FILES.md, "Row files".
use Rattle.std.specs.Prelude.{ℕ, ◌<◌, ◌^◌, List, ◌∷◌, ◌++◌, length}
use Rattle.std.specs.List.{flat_map, AllByRecursion}
use Rattle.pt_value.specs.declared.value.Value.{Value}
use Rattle.pt_bytes.specs.Numbers.{le_bytes}
use Rattle.pt_rowfile.specs.declared.record.Record.{Record}
use Rattle.pt_rowfile.specs.declared.record.Record.TheVariants.{Put, Delete}
use Rattle.pt_rowfile.specs.Cells.{cell_bytes, IsCell}

-- the cells of a row: how many, and each
abbrev pub cells_bytes : List Value → List ℕ
cells_bytes cells = le_bytes 4 (length cells) ++ flat_map cell_bytes cells

-- a put is 1, the serial and the cells; a delete 2 and the serial
abbrev pub body_of : Record → List ℕ
body_of (Put row) = 1 ∷ le_bytes 8 row.serial ++ cells_bytes row.cells
body_of (Delete serial) = 2 ∷ le_bytes 8 serial

-- how many bytes the body has, and these
abbrev pub record_bytes : Record → List ℕ
record_bytes entry = le_bytes 4 (length (body_of entry)) ++ body_of entry

-- a record that can be written: its numbers fit their bytes
abbrev pub IsWritable : Record → Type 0
IsWritable (Put row) = (row.serial < 2 ^ 64) × (length row.cells < 2 ^ 32) × AllByRecursion IsCell row.cells
IsWritable (Delete serial) = serial < 2 ^ 64

pub record IsRecord (entry : Record) : Type 0 where
  pub writable : IsWritable entry
  pub fits : length (body_of entry) < 2 ^ 32
