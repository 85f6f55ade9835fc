-- What an UPDATE has come to so far.
use Rattle.std.specs.Prelude.{◌≡◌, ◌≢◌, ℕ, Bool, true, false, All, AllPairs, List, [], ◌∷◌, ◌++◌, length, Some, None, IsSome, IsSomeAnd, Option, Result, Ok, Err}
use Rattle.std.specs.declared.alloc.AllocError.{AllocError}
use Rattle.std.specs.BTreeMap.{BTreeMap}
use Rattle.pt_ast.specs.declared.database.Row.{Row}
use Rattle.pt_ast.specs.declared.database.Spot.{Spot}
use Rattle.pt_ast.specs.declared.table.TableDef.{TableDef}
use Rattle.pt_ast.specs.declared.refusal.Refusal.{Refusal}
use Rattle.pt_ast.specs.declared.refusal.Refusal.TheVariants as refusal
use Rattle.pt_place.specs.Place.{place_of}
use Rattle.pt_checks.specs.declared.faults.CellsFault.{CellsFault}
use Rattle.pt_checks.specs.declared.faults.CellsFault.TheVariants as fault
use Rattle.pt_checks.specs.Wanted.{is_in_parts}
use Rattle.pt_rowfile.specs.Rows.{is_serial}
use Rattle.pt_unique.specs.Book.{Book}
use Rattle.pt_db.specs.Rows.{row_at}
use Rattle.pt_db.specs.Sound.{AreSoundRows}
use Rattle.pt_db.specs.Spots.{IsSpotOf}
use Rattle.pt_flat.specs.declared.updating.Updating.{Updating}
use Rattle.pt_holds.specs.Fit.{FitsColumns}
use Rattle.pt_holds.specs.RowChanges.{AreApart, AreOnce, changed_at, is_deleted, rows_put}
use Rattle.pt_holds.specs.declared.change.RowChange.{RowChange}
use Rattle.pt_books.specs.Books.{AreBooks, IsAgreeing, IsEntered, is_keyed}
use Rattle.pt_books.specs.declared.halt.Halt.{Halt}
use Rattle.pt_books.specs.declared.halt.Halt.TheVariants as halt
use Rattle.pt_update.specs.declared.work.Work.{Work}

-- ---- over every host

-- A row that comes is placed in its spot, fits the columns, and has a serial that a row may have.
pub record IsPut (def : TableDef) (put : Spot × Row) : Type 0 where
  pub placed : place_of def put.1.cells ≡ Some put.0
  pub fits : FitsColumns def put.1
  pub serial : is_serial put.1.serial ≡ true

-- Rows go from spots of the table, and as many come.
pub record IsWork (def : TableDef) (work : Work) : Type 0 where
  pub deletes : All (λ delete. IsSpotOf def delete.0) work.deletes
  pub puts : All (IsPut def) work.puts
  pub many : length work.puts ≡ length work.deletes

-- No row of this serial has changed.
pub record IsFresh (work : Work) (serial : ℕ) : Type 0 where
  pub undeleted : is_deleted work.deletes serial ≡ false
  pub unput : row_at (rows_put work.puts) serial ≡ None

-- ---- where these were the table's rows before, and the model's are now those

-- Its books are those of the rows now, which are sound and those of before with its changes. Each row that goes stood in its spot
-- before; each that comes is one of these with other cells; and no serial stands twice.
pub record IsMoving (next : ℕ) (def : TableDef) (before : List Row) (updating : Updating) (work : Work) : Type 0 where
  pub books : is_keyed def ≡ true → AreBooks def before updating.rows work.books
  pub sound : AreSoundRows next def updating.rows
  pub each : (serial : ℕ) → row_at updating.rows serial ≡ changed_at work.deletes work.puts before serial
  pub counted : updating.changed ≡ length work.puts
  pub old : (serial : ℕ) → IsSome (row_at updating.rows serial) → IsSome (row_at before serial)
  pub in_place : All (λ delete. IsSomeAnd (row_at before delete.1) (λ cells. place_of def cells ≡ Some delete.0)) work.deletes
  pub apart : AreApart work.deletes
  pub once : AreOnce work.puts
  pub gone : All (λ row. is_deleted work.deletes row.serial ≡ true) (rows_put work.puts)
  pub other : All (λ row. row_at before row.serial ≢ Some row.cells) (rows_put work.puts)

-- The next row: it has these cells still, is in a named spot, and hasn't changed.
pub record IsNext (next : ℕ) (def : TableDef) (parts : Option (List (List ℕ))) (before : List Row) (updating : Updating) (work : Work) (row : Row) : Type 0 where
  pub moving : IsMoving next def before updating work
  pub there : row_at updating.rows row.serial ≡ Some row.cells
  pub named : is_in_parts def parts row.cells ≡ true
  pub fresh : IsFresh work row.serial

-- A call leaves what the model says, or fails with its refusal, or stops.
abbrev pub Moves : ℕ → TableDef → List Row → Result Updating Refusal → Work → Result (Unit {0}) Halt → Type 0
Moves next def before model later (Ok done) = (updating : Updating) × (model ≡ Ok updating) × IsMoving next def before updating later
Moves next def before model later (Err (halt.Refused why)) = model ≡ Err why
Moves next def before model later (Err (halt.Stopped stop)) = Unit {0}

-- the rows that are taken, of those before: they stand there, in named spots, and no serial twice
pub record AreTaken (def : TableDef) (parts : Option (List (List ℕ))) (before taken : List Row) : Type 0 where
  pub stand : All (λ row. row_at before row.serial ≡ Some row.cells) taken
  pub named : All (λ row. is_in_parts def parts row.cells ≡ true) taken
  pub apart : AllPairs (λ (a b : Row). a.serial ≢ b.serial) taken

-- ---- one row

-- The row was entered in the book of its spot where the table has a unique key, and it goes from the one spot to the other.
pub record IsAdded (def : TableDef) (old new : Work) (from to : Spot) (row : Row) : Type 0 where
  pub keyed : is_keyed def ≡ true → IsEntered old.books new.books to row
  pub deletes : new.deletes ≡ old.deletes ++ (from, row.serial) ∷ []
  pub puts : new.puts ≡ old.puts ++ (to, row) ∷ []

-- One of its spot's book agrees with the row of this number.
pub record IsRefused (def : TableDef) (old new : Work) (to : Spot) (number : ℕ) (row : Row) (why : Refusal) : Type 0 where
  pub keyed : is_keyed def ≡ true
  pub serial : ℕ
  pub agreeing : IsAgreeing old.books new.books to row serial
  pub is : why ≡ refusal.DuplicateKey number

-- The row is added, or one agrees with it.
abbrev pub Adds : TableDef → Work → Work → Spot → Spot → ℕ → Row → Result (Unit {0}) CellsFault → Type 0
Adds def old new from to number row (Ok done) = IsAdded def old new from to row
Adds def old new from to number row (Err (fault.Refused why)) = IsRefused def old new to number row why
Adds def old new from to number row (Err fault.NoMemory) = Unit {0}

-- The row is entered, or one agrees with it.
abbrev pub EntersFree : BTreeMap (ℕ × ℕ) Book → BTreeMap (ℕ × ℕ) Book → Spot → Row → Result Bool AllocError → Type 0
EntersFree old new spot row (Ok true) = IsEntered old new spot row
EntersFree old new spot row (Ok false) = (serial : ℕ) × IsAgreeing old new spot row serial
EntersFree old new spot row (Err e) = Unit {0}

-- ---- the change of the table's rows

abbrev pub change_of : List ℕ → ℕ → Work → RowChange
change_of table next work = record { table = table; deletes = work.deletes; puts = work.puts; next = next }
