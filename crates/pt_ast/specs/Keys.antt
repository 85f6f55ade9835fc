-- Unique keys. MySQL 5.7 manual, section 13.1.18, "CREATE TABLE Syntax": all values of a UNIQUE index are distinct, and NULL may stand
-- in it more than once; a primary key is a unique key whose columns are all NOT NULL.
use Rattle.std.specs.Prelude.{◌≡◌, ℕ, Bool, true, false, not, ◌&&◌, List, map, filter, slice_index_or, AllPairs}
use Rattle.std.specs.List.{list_any, list_all}
use Rattle.std.specs.Ordering.{eq_by_cmp}
use Rattle.pt_value.specs.Value.{value_cmp}
use Rattle.pt_value.specs.declared.value.Value.{Value}
use Rattle.pt_value.specs.declared.value.Value.TheVariants.{Null}
use Rattle.pt_ast.specs.declared.table.Rank.{Rank}
use Rattle.pt_ast.specs.declared.table.Rank.TheVariants as rank
use Rattle.pt_ast.specs.declared.table.TableDef.{TableDef}
use Rattle.pt_ast.specs.declared.database.Row.{Row}

abbrev pub is_null : Value → Bool
is_null Null = true
is_null _ = false

-- equal, and not NULL
abbrev pub is_alike : Value → Value → Bool
is_alike a b = not (is_null a) && eq_by_cmp value_cmp a b

-- the cells agree on these columns
abbrev pub agree : List Value → List Value → List ℕ → Bool
agree a b columns = list_all (λ column. is_alike (slice_index_or a column Null) (slice_index_or b column Null)) columns

-- the primary key is a unique key
abbrev pub is_unique : Rank → Bool
is_unique rank.Primary = true
is_unique rank.Unique = true
is_unique rank.Plain = false

-- the columns of each unique key
abbrev pub unique_keys : TableDef → List (List ℕ)
unique_keys def = map (λ key. key.columns) (filter (λ key. is_unique key.rank) def.keys)

-- the cells agree on one of these keys
abbrev pub agree_on : List (List ℕ) → List Value → List Value → Bool
agree_on keys a b = list_any (agree a b) keys

-- the cells agree on a unique key: they are equal and without NULL on all its columns
abbrev pub agrees : TableDef → List Value → List Value → Bool
agrees def a b = agree_on (unique_keys def) a b

-- a row agrees with these cells
abbrev pub is_taken : TableDef → List Value → List Row → Bool
is_taken def cells rows = list_any (λ row. agrees def cells row.cells) rows

-- no two rows agree on a unique key
abbrev pub AreUnique : TableDef → List Row → Type 0
AreUnique def rows = AllPairs (λ (a b : Row). agrees def b.cells a.cells ≡ false) rows
