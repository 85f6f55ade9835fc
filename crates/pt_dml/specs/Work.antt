-- What an INSERT, an INSERT IGNORE or a REPLACE has come to so far.
use Rattle.std.specs.Prelude.{◌≡◌, ◌≢◌, ℕ, ◌+◌, ◌-◌, ◌<◌, ◌≤◌, ◌^◌, ◌==◌, Bool, true, false, not, List, [], ◌∷◌, ◌++◌, length, filter, All, Some, Result, Ok, Err, IsSomeAnd}
use Rattle.std.specs.declared.alloc.AllocError.{AllocError}
use Rattle.std.specs.BTreeMap.{BTreeMap}
use Rattle.pt_ast.specs.declared.database.Row.{Row}
use Rattle.pt_ast.specs.declared.database.Spot.{Spot}
use Rattle.pt_ast.specs.declared.table.TableDef.{TableDef}
use Rattle.pt_ast.specs.declared.refusal.Refusal.{Refusal}
use Rattle.pt_ast.specs.declared.refusal.Refusal.TheVariants as refusal
use Rattle.pt_ast.specs.Keys.{is_taken}
use Rattle.pt_place.specs.Place.{place_of}
use Rattle.pt_checks.specs.declared.faults.CellsFault.{CellsFault}
use Rattle.pt_checks.specs.declared.faults.CellsFault.TheVariants as fault
use Rattle.pt_db.specs.Rows.{AreRising, row_at}
use Rattle.pt_db.specs.Sound.{AreSoundRows}
use Rattle.pt_db.specs.Spots.{IsSpotOf}
use Rattle.pt_flat.specs.declared.filling.Filling.{Filling}
use Rattle.pt_flat.specs.declared.filling.InsertMode.{InsertMode}
use Rattle.pt_flat.specs.declared.filling.InsertMode.TheVariants as mode
use Rattle.pt_flat.specs.Insert.{cleared, filled_text}
use Rattle.pt_holds.specs.Fit.{FitsColumns}
use Rattle.pt_holds.specs.RowChanges.{AreApart, AreOnce, is_deleted, rows_put}
use Rattle.pt_holds.specs.declared.change.RowChange.{RowChange}
use Rattle.pt_books.specs.Books.{AreBooks, IsAgreeing, IsEntered, IsRemoved, is_keyed}
use Rattle.pt_unique.specs.Book.{Book}
use Rattle.pt_books.specs.declared.halt.Halt.{Halt}
use Rattle.pt_books.specs.declared.halt.Halt.TheVariants as halt
use Rattle.pt_dml.specs.declared.work.Work.{Work}

-- ---- the model's state, where these were the table's rows before

-- those of before that stay
abbrev pub stay : List (Spot × ℕ) → List Row → List Row
stay deletes before = filter (λ row. not (is_deleted deletes row.serial)) before

-- the rows so far
abbrev pub rows_now : List Row → Work → List Row
rows_now before work = stay work.deletes before ++ rows_put work.puts

-- how many rows were added, one serial each
abbrev pub added_of : Work → ℕ
added_of work = work.next - work.first

-- how many rows went: those of before, and those that were added and aren't put
abbrev pub deleted_of : Work → ℕ
deleted_of work = length work.deletes + (added_of work - length work.puts)

abbrev pub filling_of : List Row → Work → Filling
filling_of before work =
    record { rows = rows_now before work; next = work.next; added = added_of work; skipped = work.skipped; deleted = deleted_of work }

-- the answer: its counts don't depend on the rows of before
abbrev pub reply_text : InsertMode → Work → List ℕ
reply_text how work = filled_text how (filling_of [] work)

-- the change that it makes
abbrev pub change_of : List ℕ → Work → RowChange
change_of table work = record { table = table; deletes = work.deletes; puts = work.puts; next = work.next }

-- ---- over every host

-- A row that is put is placed in its spot, fits the columns, and has a new serial.
pub record IsPut (first next : ℕ) (def : TableDef) (put : Spot × Row) : Type 0 where
  pub placed : place_of def put.1.cells ≡ Some put.0
  pub fits : FitsColumns def put.1
  pub from : first ≤ put.1.serial
  pub below : put.1.serial < next

-- Before the row of this number: the rows that are put are so and have serials of their own, and the spots of those that go are the
-- table's.
pub record IsWork (def : TableDef) (number : ℕ) (work : Work) : Type 0 where
  pub some : 0 < work.first
  pub deletes : All (λ (delete : Spot × ℕ). IsSpotOf def delete.0) work.deletes
  pub puts : All (IsPut work.first work.next def) work.puts
  pub once : AreOnce work.puts
  pub counted : work.first + length work.puts ≤ work.next
  pub most : work.next ≤ 2 ^ 62
  pub skipped : work.skipped < number

-- A call leaves it so, and the first new serial is the same.
pub record IsWorkBehind (def : TableDef) (number : ℕ) (old new : Work) : Type 0 where
  pub work : IsWork def number new
  pub first : new.first ≡ old.first

-- After all rows, where the new serials began with this one.
pub record IsMade (first : ℕ) (def : TableDef) (work : Work) : Type 0 where
  pub number : ℕ
  pub done : IsWork def number work
  pub begun : work.first ≡ first

-- ---- where these were the table's rows before

-- Each row that goes was there and is placed in its spot; none goes twice.
pub record AreGone (def : TableDef) (before : List Row) (deletes : List (Spot × ℕ)) : Type 0 where
  pub there : All (λ (delete : Spot × ℕ). IsSomeAnd (row_at before delete.1) (λ cells. place_of def cells ≡ Some delete.0)) deletes
  pub apart : AreApart deletes

-- The rows so far are sound, those of before are below the first new serial, and its books are those of these rows.
pub record IsOver (def : TableDef) (before : List Row) (rows : List Row) (work : Work) : Type 0 where
  pub books : is_keyed def ≡ true → AreBooks def before rows work.books
  pub sound : AreSoundRows work.next def (rows_now before work)
  pub rising : AreRising before
  pub below : All (λ (row : Row). row.serial < work.first) before
  pub gone : AreGone def before work.deletes

-- So it is between two rows; where no row was added, none goes.
pub record IsWorkOn (def : TableDef) (before : List Row) (work : Work) : Type 0 where
  pub over : IsOver def before (rows_now before work) work
  pub none : work.next ≡ work.first → work.deletes ≡ []

-- A call leaves what the model says, or fails with its refusal, or for want of memory.
abbrev pub Adds : TableDef → List Row → Result Filling Refusal → Work → Result (Unit {0}) CellsFault → Type 0
Adds def before model later (Ok done) = (model ≡ Ok (filling_of before later)) × IsWorkOn def before later
Adds def before model later (Err (fault.Refused why)) = model ≡ Err why
Adds def before model later (Err fault.NoMemory) = Unit {0}

-- The same of a call that may stop.
abbrev pub Fills : TableDef → List Row → Result Filling Refusal → Work → Result (Unit {0}) Halt → Type 0
Fills def before model later (Ok done) = (model ≡ Ok (filling_of before later)) × IsWorkOn def before later
Fills def before model later (Err (halt.Refused why)) = model ≡ Err why
Fills def before model later (Err (halt.Stopped stop)) = Unit {0}

-- ---- one row

-- nothing changes but books and the rows that go
pub record IsSameWork (old new : Work) : Type 0 where
  pub first : new.first ≡ old.first
  pub next : new.next ≡ old.next
  pub skipped : new.skipped ≡ old.skipped

-- The row of that serial gives way to a new one: its spot's book has it no longer, and it goes, or where it was put itself it is put no
-- longer.
pub record GivesWay (old new : Work) (spot : Spot) (serial : ℕ) : Type 0 where
  pub same : IsSameWork old new
  pub books : IsRemoved old.books new.books spot serial
  pub old_one : serial < old.first → (new.deletes ≡ old.deletes ++ (spot, serial) ∷ []) × (new.puts ≡ old.puts)
  pub own : old.first ≤ serial → (new.deletes ≡ old.deletes) × (new.puts ≡ filter (λ (put : Spot × Row). not (put.1.serial == serial)) old.puts)

-- No row so far agrees with this one, and the books have it: the rows that agreed are gone where it replaces them.
pub record IsReady (how : InsertMode) (def : TableDef) (before : List Row) (old new : Work) (row : Row) : Type 0 where
  pub cleared : filling_of before new ≡ cleared how def row.cells (filling_of before old)
  pub free : is_taken def row.cells (rows_now before new) ≡ false
  pub over : IsOver def before (rows_now before new ++ row ∷ []) new

-- The row is ready to be put, or one agrees with it, which REPLACE takes away.
abbrev pub Enters : InsertMode → TableDef → List Row → Work → Work → Row → Result Bool AllocError → Type 0
Enters how def before old new row (Ok true) = IsReady how def before old new row
Enters how def before old new row (Ok false) =
    (how ≢ mode.Replace) × (is_taken def row.cells (rows_now before old) ≡ true) × (filling_of before new ≡ filling_of before old) × IsWorkOn def before new
Enters how def before old new row (Err e) = Unit {0}

-- The row is entered in the book of its spot, or one agrees with it.
abbrev pub IsTried : BTreeMap (ℕ × ℕ) Book → BTreeMap (ℕ × ℕ) Book → Spot → Row → Result Bool AllocError → Type 0
IsTried old new spot row (Ok true) = IsEntered old new spot row
IsTried old new spot row (Ok false) = (serial : ℕ) × IsAgreeing old new spot row serial
IsTried old new spot row (Err e) = Unit {0}

-- with one more that was passed over
abbrev pub skipping : Work → Work
skipping work = record work { skipped = work.skipped + 1 }

-- The row of this number is passed over by IGNORE, and refused by the others.
abbrev pub PassesOver : InsertMode → Work → Work → ℕ → Result (Unit {0}) CellsFault → Type 0
PassesOver how old new number (Ok done) = (how ≡ mode.Skip) × (new ≡ skipping old)
PassesOver how old new number (Err (fault.Refused why)) = (how ≢ mode.Skip) × (why ≡ refusal.DuplicateKey number)
PassesOver how old new number (Err fault.NoMemory) = ⊥

-- The row was put, with its serial below 2^62.
pub record IsPutBehind (old new : Work) (spot : Spot) (row : Row) : Type 0 where
  pub room : old.next < 2 ^ 62
  pub books : new.books ≡ old.books
  pub deletes : new.deletes ≡ old.deletes
  pub puts : new.puts ≡ old.puts ++ (spot, row) ∷ []
  pub first : new.first ≡ old.first
  pub next : new.next ≡ old.next + 1
  pub skipped : new.skipped ≡ old.skipped

-- The row of this number is put, or refused where serials are used up.
abbrev pub Puts : Work → Work → Spot → ℕ → Row → Result (Unit {0}) CellsFault → Type 0
Puts old new spot number row (Ok done) = IsPutBehind old new spot row
Puts old new spot number row (Err (fault.Refused why)) = (2 ^ 62 ≤ old.next) × (why ≡ refusal.SerialsUsed number)
Puts old new spot number row (Err fault.NoMemory) = Unit {0}
