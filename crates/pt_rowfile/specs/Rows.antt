-- The rows that records leave. docs/FILES.md, "Row files".
use Rattle.std.specs.Prelude.{◌≡◌, ℕ, ◌<◌, ◌^◌, Bool, not, ◌&&◌, ◌==◌, nat_lt, if◌then◌else◌, List, [], ◌∷◌, ◌++◌, length, take, drop, Option, Some, None}
use Rattle.std.specs.List.{flat_map, list_any, AllByRecursion}
use Rattle.std.specs.Option.{option_and_then}
use Rattle.pt_ast.specs.declared.database.Row.{Row}
use Rattle.pt_rowfile.specs.declared.record.Record.{Record}
use Rattle.pt_rowfile.specs.declared.record.Record.TheVariants.{Put, Delete}
use Rattle.pt_rowfile.specs.Records.{IsRecord, record_bytes}

-- a row of this serial is there
abbrev pub has_row : ℕ → List Row → Bool
has_row serial rows = list_any (λ row. row.serial == serial) rows

-- with a row in its place by serial
abbrev pub with_row : Row → List Row → List Row
with_row row [] = row ∷ []
with_row row (other ∷ rows) = if nat_lt row.serial other.serial then row ∷ other ∷ rows else other ∷ with_row row rows

-- without the row of this serial
abbrev pub without_row : ℕ → List Row → List Row
without_row serial [] = []
without_row serial (row ∷ rows) = if row.serial == serial then rows else row ∷ without_row serial rows

-- a serial is from 1 to 2^62 - 1
abbrev pub is_serial : ℕ → Bool
is_serial serial = nat_lt 0 serial && nat_lt serial (2 ^ 62)

-- What a record leaves of rows by rising serial: a put adds a row whose serial isn't there, a delete takes one away that is. Other
-- records aren't proper.
abbrev pub after : Record → List Row → Option (List Row)
after (Put row) rows = if is_serial row.serial && not (has_row row.serial rows) then Some (with_row row rows) else None
after (Delete serial) rows = if has_row serial rows then Some (without_row serial rows) else None

-- what records leave, one after the other
abbrev pub left : List Record → List Row → Option (List Row)
left [] rows = Some rows
left (entry ∷ entries) rows = option_and_then (left entries) (after entry rows)

-- These bytes spell records that lead from some rows to others.
pub record Spells (old : List Row) (bytes : List ℕ) (new : List Row) : Type 0 where
  pub records : List Record
  pub each : AllByRecursion IsRecord records
  pub text : bytes ≡ flat_map record_bytes records
  pub leaves : left records old ≡ Some new

-- The rows that these bytes leave, by rising serial.
abbrev pub SpellsRows : List ℕ → List Row → Type 0
SpellsRows bytes rows = Spells [] bytes rows

-- The first record that isn't proper begins at this place: proper ones stand before it, and none does there.
pub record IsBadAt (bytes : List ℕ) (place : ℕ) : Type 0 where
  pub rows : List Row
  pub before : SpellsRows (take place bytes) rows
  pub there : place < length bytes
  pub none : (entry : Record) (rest : List ℕ) → IsRecord entry → drop place bytes ≡ record_bytes entry ++ rest → after entry rows ≡ None
