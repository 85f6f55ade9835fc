-- What the text of columns and keys means: kinds, defaults, NOT NULL, and keys. MySQL 5.7 manual, section 13.1.18, "CREATE TABLE
-- Syntax", and section 11.7, "Data Type Default Values".
use Rattle.std.specs.Prelude.{ℕ, ◌+◌, ◌-◌, ◌*◌, ℤ, pos, neg_ℤ, unsigned_abs, Bool, true, false, ◌&&◌, ◌||◌, ◌==◌, nat_le, if◌then◌else◌, List, [], ◌∷◌, map, fold, find, codes, is_none, Option, Some, None, slice_index_or}
use Rattle.std.specs.List.{list_any, list_all, flat_map, filter_map, position_or_len}
use Rattle.std.specs.Option.{option_or, option_map, option_map_or, option_and_then}
use Rattle.pt_value.specs.Fits.{fits_date}
use Rattle.pt_value.specs.Text.{day_of}
use Rattle.pt_value.specs.declared.value.Value.{Value}
use Rattle.pt_value.specs.declared.value.Value.TheVariants as value
use Rattle.pt_value.specs.declared.value.Kind.{Kind}
use Rattle.pt_value.specs.declared.value.Kind.TheVariants as kind
use Rattle.pt_ast.specs.declared.written.Literal.{Literal}
use Rattle.pt_ast.specs.declared.written.Literal.TheVariants as literal
use Rattle.pt_ast.specs.declared.written.KindSpec.{KindSpec}
use Rattle.pt_ast.specs.declared.written.KindSpec.TheVariants as spec
use Rattle.pt_ast.specs.declared.written.ColOption.{ColOption}
use Rattle.pt_ast.specs.declared.written.ColOption.TheVariants as option
use Rattle.pt_ast.specs.declared.written.Item.{Item}
use Rattle.pt_ast.specs.declared.written.Item.TheVariants as item
use Rattle.pt_ast.specs.declared.table.Column.{Column}
use Rattle.pt_ast.specs.declared.table.Rank.{Rank}
use Rattle.pt_ast.specs.declared.table.Rank.TheVariants as rank
use Rattle.pt_ast.specs.declared.table.KeyDef.{KeyDef}
use Rattle.pt_expr.specs.Columns.{column_named, is_named}
use Rattle.pt_place.specs.Checks.{is_primary_rank, is_unique_rank}
use Rattle.pt_place.specs.Names.{is_among}

-- ---- kinds and constants

abbrev pub kind_of : KindSpec → Kind
kind_of spec.Int = kind.Int
kind_of spec.BigInt = kind.BigInt
kind_of spec.Date = kind.Date
kind_of (spec.Binary most) = kind.Binary (unsigned_abs most)

abbrev pub is_digit : ℕ → Bool
is_digit b = nat_le 48 b && nat_le b 57

-- the number that one or more digits write
abbrev pub natural_in : List ℕ → Option ℕ
natural_in [] = None
natural_in (b ∷ bytes) = if list_all is_digit (b ∷ bytes) then Some (fold (λ n digit. n * 10 + (digit - 48)) 0 (b ∷ bytes)) else None

-- digits with an optional minus, the byte 45
abbrev pub integer_in : List ℕ → Option ℤ
integer_in [] = None
integer_in (b ∷ bytes) = if b == 45 then option_map (λ n. neg_ℤ (pos n)) (natural_in bytes) else option_map pos (natural_in (b ∷ bytes))

-- a text in the DEFAULT of an integer column: the server's SHOW CREATE TABLE writes integers in quotes
abbrev pub integer_text : List ℕ → Value
integer_text bytes = option_map_or value.Int (integer_in bytes) (value.Bytes bytes)

abbrev pub fit_day : Option ℤ → Option ℤ
fit_day (Some day) = if fits_date day then Some day else None
fit_day None = None

-- a constant as the default of a column of this kind, None for a text of a date that is none. Numbers may still be of any size.
abbrev pub constant : Kind → Literal → Option Value
constant k (literal.Number minus n) = Some (value.Int (if minus then neg_ℤ n else n))
constant kind.Int (literal.Text bytes) = Some (integer_text bytes)
constant kind.BigInt (literal.Text bytes) = Some (integer_text bytes)
constant kind.Date (literal.Text bytes) = option_map value.Day (day_of bytes)
constant (kind.Binary most) (literal.Text bytes) = Some (value.Bytes bytes)
constant k (literal.Hex bytes) = Some (value.Bytes bytes)
constant k (literal.Date day) = option_map value.Day (fit_day day)
constant k literal.Null = Some value.Null

-- ---- options of a column: of contradicting ones the last counts

abbrev pub null_step : Bool → ColOption → Bool
null_step before option.NotNull = true
null_step before option.Null = false
null_step before _ = before

-- the last of NOT NULL and NULL is NOT NULL
abbrev pub says_not_null : List ColOption → Bool
says_not_null options = fold null_step false options

abbrev pub default_step : Option Literal → ColOption → Option Literal
default_step before (option.Default literal) = Some literal
default_step before _ = before

-- the last DEFAULT
abbrev pub default_written : List ColOption → Option Literal
default_written options = fold default_step None options

abbrev pub is_primary_option : ColOption → Bool
is_primary_option option.Primary = true
is_primary_option _ = false

-- ---- columns

abbrev pub primary_names_in : Item → List (List ℕ)
primary_names_in (item.Key rank.Primary name columns) = columns
primary_names_in _ = []

-- the names that items of primary keys list
abbrev pub primary_names : List Item → List (List ℕ)
primary_names items = flat_map primary_names_in items

-- a column of a primary key is NOT NULL, whatever its options say
abbrev pub is_not_null : List (List ℕ) → List ℕ → List ColOption → Bool
is_not_null primary name options = says_not_null options || list_any is_primary_option options || is_among name primary

-- the value of the DEFAULT: none where there is none, and where it is a date text that is none
abbrev pub default_in : Kind → List ColOption → Option Value
default_in k options = option_and_then (constant k) (default_written options)

abbrev pub is_bad_constant : Kind → Option Literal → Bool
is_bad_constant k (Some literal) = is_none (constant k literal)
is_bad_constant k None = false

-- DEFAULT NULL is kept as no default
abbrev pub but_null : Option Value → Option Value
but_null (Some value.Null) = None
but_null value = value

abbrev pub column_in : List (List ℕ) → Item → Option Column
column_in primary (item.Column name written options) = Some (record {
  name = name;
  kind = kind_of written;
  not_null = is_not_null primary name options;
  default = but_null (default_in (kind_of written) options);
})
column_in primary (item.Key rank name columns) = None

-- the columns, in the order of the text
abbrev pub columns_of : List Item → List Column
columns_of items = filter_map (column_in (primary_names items)) items

-- ---- keys

-- a key as written
pub record KeyText : Type 0 where
  pub rank : Rank
  pub name : Option (List ℕ)
  pub columns : List (List ℕ)

abbrev pub own_key : Rank → List ℕ → KeyText
own_key rank name = record { rank = rank; name = None; columns = name ∷ [] }

abbrev pub key_option : List ℕ → ColOption → Option KeyText
key_option name option.Primary = Some (own_key rank.Primary name)
key_option name option.Unique = Some (own_key rank.Unique name)
key_option name _ = None

-- those of a column's options stand where the column does
abbrev pub keys_in : Item → List KeyText
keys_in (item.Column name written options) = filter_map (key_option name) options
keys_in (item.Key rank name columns) = record { rank = rank; name = name; columns = columns } ∷ []

-- the keys, in the order of the text
abbrev pub keys_written : List Item → List KeyText
keys_written items = flat_map keys_in items

-- the positions of named columns, and past the last one for a name that is none
abbrev pub places_of : List Column → List (List ℕ) → List ℕ
places_of columns names = map (λ name. position_or_len (is_named name) columns) names

-- a column's name as the list of columns writes it
abbrev pub own_name : List Column → List ℕ → List ℕ
own_name columns name = option_map_or (λ column. column.name) (column_named name columns) name

abbrev pub first_name : List Column → List (List ℕ) → List ℕ
first_name columns [] = []
first_name columns (name ∷ names) = own_name columns name

-- a primary key is named PRIMARY; a key without a name takes that of its first column, as the list of columns writes it
abbrev pub key_name : List Column → KeyText → List ℕ
key_name columns text =
    if is_primary_rank text.rank then codes "PRIMARY"
    else (option_map_or (λ name. name) text.name (first_name columns text.columns))

abbrev pub key_of : List Column → KeyText → KeyDef
key_of columns text = record { rank = text.rank; name = key_name columns text; columns = places_of columns text.columns }

abbrev pub keys_of : List Column → List Item → List KeyDef
keys_of columns items = map (key_of columns) (keys_written items)

-- ---- KEY without columns

abbrev pub is_not_null_at : List Column → ℕ → Bool
is_not_null_at columns number = slice_index_or (map (λ column. column.not_null) columns) number false

abbrev pub is_full_unique : List Column → KeyDef → Bool
is_full_unique columns key = is_unique_rank key.rank && list_all (is_not_null_at columns) key.columns

-- the primary key, else the first unique key whose columns are all NOT NULL
abbrev pub key_for_rows : List Column → List KeyDef → Option KeyDef
key_for_rows columns keys = option_or (find (λ key. is_primary_rank key.rank) keys) (find (is_full_unique columns) keys)

-- its columns, in its order, or none
abbrev pub columns_for_rows : List Column → List KeyDef → List ℕ
columns_for_rows columns keys = option_map_or (λ key. key.columns) (key_for_rows columns keys) []
