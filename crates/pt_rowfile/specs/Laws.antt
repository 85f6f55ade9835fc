-- What the definitions come to. Each is proved.
use Rattle.std.specs.Prelude.{◌≡◌, ◌↔◌, ℕ, List, ◌++◌, Some}
use Rattle.pt_ast.specs.declared.database.Row.{Row}
use Rattle.pt_rowfile.specs.declared.record.Record.{Record}
use Rattle.pt_rowfile.specs.Records.{IsRecord, record_bytes}
use Rattle.pt_bytes.specs.Numbers.{AreBytes}
use Rattle.pt_rowfile.specs.Rows.{SpellsRows, after}
use Rattle.pt_rowfile.specs.Reader.{rows_spelled}

-- Records are prefix-free: where two begin the same bytes they are one record, and the same bytes follow.
abbrev pub OneRecord : Type 0
OneRecord = (a b : Record) (x y : List ℕ) → IsRecord a → IsRecord b → record_bytes a ++ x ≡ record_bytes b ++ y → (a ≡ b) × (x ≡ y)

-- A proper record behind bytes that leave rows leaves what it makes of them.
abbrev pub Appended : Type 0
Appended = (bytes : List ℕ) (rows later : List Row) (entry : Record) → SpellsRows bytes rows → IsRecord entry → after entry rows ≡ Some later → SpellsRows (bytes ++ record_bytes entry) later

-- The rows that bytes leave are a function of them, so they leave one list of rows at most.
abbrev pub OneFile : Type 0
OneFile = (bytes : List ℕ) (rows : List Row) → AreBytes bytes → (rows_spelled bytes ≡ Some rows) ↔ SpellsRows bytes rows
