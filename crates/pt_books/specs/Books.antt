-- The key books of the spots of a table, and what they say of its rows.
use Rattle.std.specs.Prelude.{◌≡◌, ℕ, Bool, false, List, Option, Some, None, Ok, Err, Result, if◌then◌else◌}
use Rattle.std.specs.List.{list_any}
use Rattle.std.specs.Option.{option_map}
use Rattle.std.specs.declared.cmp.Ordering.{Ordering}
use Rattle.std.specs.Ordering.{nat_cmp, ordering_then}
use Rattle.std.specs.declared.alloc.AllocError.{AllocError}
use Rattle.std.specs.BTreeMap.{BTreeMap, get, is_at}
use Rattle.pt_ast.specs.declared.database.Row.{Row}
use Rattle.pt_ast.specs.declared.database.Spot.{Spot}
use Rattle.pt_ast.specs.declared.table.TableDef.{TableDef}
use Rattle.pt_ast.specs.Keys.{is_unique, unique_keys}
use Rattle.pt_db.specs.Rows.{is_spot, row_at, spot_rows}
use Rattle.pt_unique.specs.Book.{Book, IsFree, IsTaken, entered, entry_at, entry_of, without}

-- the table has a unique key
abbrev pub is_keyed : TableDef → Bool
is_keyed def = list_any (λ key. is_unique key.rank) def.keys

-- by the number of the partition, and then of the subpartition
abbrev pub spot_cmp : ℕ × ℕ → ℕ × ℕ → Ordering
spot_cmp a b = ordering_then (nat_cmp a.0 b.0) (nat_cmp a.1 b.1)

-- the book of a spot, if its rows were read
abbrev pub book_at : BTreeMap (ℕ × ℕ) Book → Spot → Option Book
book_at books spot = get spot_cmp books (spot.part, spot.sub)

-- ---- what a book says

-- The book has an entry for each of these rows, and no other.
pub record IsBookOf (def : TableDef) (rows : List Row) (book : Book) : Type 0 where
  pub keys : book.keys ≡ unique_keys def
  pub entries : (serial : ℕ) → entry_at book serial ≡ option_map (entry_of (unique_keys def)) (row_at rows serial)

-- A spot that was read has the book of its rows as they are now. In one that wasn't, the rows are as they were before.
abbrev pub IsBook : TableDef → List Row → List Row → Spot → Option Book → Type 0
IsBook def before now spot (Some book) = IsBookOf def (spot_rows def spot now) book
IsBook def before now spot None = spot_rows def spot now ≡ spot_rows def spot before

abbrev pub AreBooks : TableDef → List Row → List Row → BTreeMap (ℕ × ℕ) Book → Type 0
AreBooks def before now books = (spot : Spot) → IsBook def before now spot (book_at books spot)

-- ---- how books change

-- the books of all other spots are the same
abbrev pub AreOthersSame : BTreeMap (ℕ × ℕ) Book → BTreeMap (ℕ × ℕ) Book → Spot → Type 0
AreOthersSame old new spot = (query : Spot) → is_spot spot query ≡ false → book_at new query ≡ book_at old query

-- every book is as it was
abbrev pub AreBooksSame : BTreeMap (ℕ × ℕ) Book → BTreeMap (ℕ × ℕ) Book → Type 0
AreBooksSame old new = (query : Spot) → book_at new query ≡ book_at old query

-- The row was entered in the book of its spot, where no row agreed with it.
pub record IsEntered (old new : BTreeMap (ℕ × ℕ) Book) (spot : Spot) (row : Row) : Type 0 where
  pub book : Book
  pub was : book_at old spot ≡ Some book
  pub free : IsFree book (entry_of book.keys row.cells)
  pub is : book_at new spot ≡ Some (entered book row)
  pub others : AreOthersSame old new spot

-- The row of this serial, of the spot's book, agrees with the row, and none of a lower serial does. Every book is as it was.
pub record IsAgreeing (old new : BTreeMap (ℕ × ℕ) Book) (spot : Spot) (row : Row) (serial : ℕ) : Type 0 where
  pub book : Book
  pub was : book_at old spot ≡ Some book
  pub taken : IsTaken book (entry_of book.keys row.cells) serial
  pub same : AreBooksSame old new

-- The row is entered, or one agrees with it. Want of memory changes no book.
abbrev pub Enters : BTreeMap (ℕ × ℕ) Book → BTreeMap (ℕ × ℕ) Book → Spot → Row → Result (Option ℕ) AllocError → Type 0
Enters old new spot row (Ok None) = IsEntered old new spot row
Enters old new spot row (Ok (Some serial)) = IsAgreeing old new spot row serial
Enters old new spot row (Err e) = AreBooksSame old new

-- The row of this serial was taken out of the book of the spot.
pub record IsRemoved (old new : BTreeMap (ℕ × ℕ) Book) (spot : Spot) (serial : ℕ) : Type 0 where
  pub book : Book
  pub was : book_at old spot ≡ Some book
  pub is : book_at new spot ≡ Some (without book serial)
  pub entries : (other : ℕ) → entry_at (without book serial) other ≡ (if is_at (nat_cmp serial) other then None else entry_at book other)
  pub others : AreOthersSame old new spot
