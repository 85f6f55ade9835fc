-- Which rows are written.
use Rattle.std.specs.Prelude.{◌≡◌, ◌≤◌, true, List, length, All}
use Rattle.pt_value.specs.declared.value.Value.{Value}
use Rattle.pt_value.specs.declared.value.Value.TheVariants.{Bytes}
use Rattle.pt_ast.specs.declared.database.Row.{Row}
use Rattle.pt_rowfile.specs.Rows.{is_serial}

-- a byte string has at most 4096 bytes
abbrev pub IsShortCell : Value → Type 0
IsShortCell (Bytes bytes) = length bytes ≤ 4096
IsShortCell _ = Unit {0}

abbrev pub AreFewCells : List Value → Type 0
AreFewCells cells = length cells ≤ 1_000_000

-- a row that can be written: its serial is one, it has at most 1,000,000 cells, and byte strings are short
pub record IsShortRow (row : Row) : Type 0 where
  pub serial : is_serial row.serial ≡ true
  pub few : AreFewCells row.cells
  pub short : All IsShortCell row.cells
