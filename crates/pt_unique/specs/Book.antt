-- What a key book holds, and which of its rows agree with another.
use Rattle.std.specs.Prelude.{◌≡◌, ℕ, ◌≤◌, Bool, true, false, not, ◌&&◌, ◌==◌, List, map, Option}
use Rattle.std.specs.List.{list_any, list_all, enumerate_from}
use Rattle.std.specs.Option.{option_map_or}
use Rattle.std.specs.Ordering.{nat_cmp, eq_by_cmp}
use Rattle.std.specs.Map.{lookup, remove_entry}
use Rattle.std.specs.BTreeMap.{insert_entry, is_at}
use Rattle.std.specs.Cmp.Lexicographic.{pointwise}
use Rattle.pt_value.specs.Value.{value_cmp}
use Rattle.pt_value.specs.declared.value.Value.{Value}
use Rattle.pt_ast.specs.Bounds.{cells_at}
use Rattle.pt_ast.specs.Keys.{is_null}
use Rattle.pt_ast.specs.declared.database.Row.{Row}

-- The columns of the unique keys, and by rising serial an entry for each row: for each key its number, from 0, and the row's cells in
-- its columns.
pub record Book : Type 0 where
  pub keys : List (List ℕ)
  pub entries : List (ℕ × List (ℕ × List Value))

-- the entry of a row with these cells
abbrev pub entry_of : List (List ℕ) → List Value → List (ℕ × List Value)
entry_of keys cells = enumerate_from 0 (map (cells_at cells) keys)

-- the entry of the row of that serial
abbrev pub entry_at : Book → ℕ → Option (List (ℕ × List Value))
entry_at book serial = lookup (is_at (nat_cmp serial)) book.entries

-- ---- which rows agree

-- the same key, and the same cells
abbrev pub mark_eq : ℕ × List Value → ℕ × List Value → Bool
mark_eq a b = a.0 == b.0 && pointwise (eq_by_cmp value_cmp) a.1 b.1

abbrev pub is_whole : List Value → Bool
is_whole cells = list_all (λ cell. not (is_null cell)) cells

-- an entry has the cells of that key, none of them NULL
abbrev pub stands : List (ℕ × List Value) → ℕ × List Value → Bool
stands entry mark = list_any (λ own. is_whole own.1 && mark_eq own mark) entry

-- two entries agree: on some key they have the same cells, none of them NULL
abbrev pub shares : List (ℕ × List Value) → List (ℕ × List Value) → Bool
shares mine theirs = list_any (stands mine) theirs

-- the book has a row of that serial, and its entry agrees with this one
abbrev pub agrees_at : Book → List (ℕ × List Value) → ℕ → Bool
agrees_at book mine serial = option_map_or (shares mine) (entry_at book serial) false

-- no row of the book agrees
abbrev pub IsFree : Book → List (ℕ × List Value) → Type 0
IsFree book mine = (serial : ℕ) → agrees_at book mine serial ≡ false

-- The row of this serial agrees, and none of a lower one.
pub record IsTaken (book : Book) (mine : List (ℕ × List Value)) (serial : ℕ) : Type 0 where
  pub agrees : agrees_at book mine serial ≡ true
  pub least : (other : ℕ) → agrees_at book mine other ≡ true → serial ≤ other

-- ---- how a book changes

-- with the row
abbrev pub entered : Book → Row → Book
entered book row = record book { entries = insert_entry nat_cmp book.entries row.serial (entry_of book.keys row.cells) }

-- without the row of that serial
abbrev pub without : Book → ℕ → Book
without book serial = record book { entries = remove_entry (is_at (nat_cmp serial)) book.entries }
