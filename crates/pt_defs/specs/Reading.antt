-- Reading a definition from left to right, field by field, in the shape of the layout: a reader gives the value at the front of the
-- bytes and the bytes behind it, or how many bytes there are from the first field that can't be read to the end.
use Rattle.std.specs.Prelude.{ℕ, zero, suc, ◌+◌, ◌-◌, ◌*◌, ◌^◌, nat_lt, nat_le, ◌==◌, Bool, true, false, ◌&&◌, if◌then◌else◌, ℤ, pos, List, [], ◌∷◌, length, take, drop, map, slice_index_or, Option, Some, None, Result, Ok, Err, codes}
use Rattle.std.specs.Int.{w32, w64, cast_signed}
use Rattle.std.specs.List.{list_all}
use Rattle.std.specs.Str.{bytes_eq}
use Rattle.pt_value.specs.Ident.{is_ident_byte}
use Rattle.pt_value.specs.Fits.{fits_date}
use Rattle.pt_value.specs.declared.value.Value.{Value}
use Rattle.pt_value.specs.declared.value.Value.TheVariants as value
use Rattle.pt_value.specs.declared.value.Kind.{Kind}
use Rattle.pt_value.specs.declared.value.Kind.TheVariants as kind
use Rattle.pt_bytes.specs.Numbers.{number_of}
use Rattle.pt_ast.specs.declared.tree.Func.{Func}
use Rattle.pt_ast.specs.declared.tree.Func.TheVariants as func
use Rattle.pt_ast.specs.declared.tree.Op.{Op}
use Rattle.pt_ast.specs.declared.tree.Op.TheVariants as op
use Rattle.pt_ast.specs.declared.tree.Expr.{Expr}
use Rattle.pt_ast.specs.declared.tree.Expr.TheVariants as tree
use Rattle.pt_ast.specs.declared.table.Column.{Column}
use Rattle.pt_ast.specs.declared.table.Rank.{Rank}
use Rattle.pt_ast.specs.declared.table.Rank.TheVariants as rank
use Rattle.pt_ast.specs.declared.table.KeyDef.{KeyDef}
use Rattle.pt_ast.specs.declared.table.PartBy.{PartBy}
use Rattle.pt_ast.specs.declared.table.PartBy.TheVariants as by
use Rattle.pt_ast.specs.declared.table.Bound.{Bound}
use Rattle.pt_ast.specs.declared.table.Bound.TheVariants as bound
use Rattle.pt_ast.specs.declared.table.PartDef.{PartDef}
use Rattle.pt_ast.specs.declared.table.TableDef.{TableDef}
use Rattle.pt_defs.specs.Spelling.{column_place, head_text}

abbrev pub Read : Type 0 → Type 0
Read A = Result (A × List ℕ) ℕ

abbrev pub Reader : Type 0 → Type 0
Reader A = List ℕ → Read A

infixl 10 ◌>>=◌
abbrev pub ◌>>=◌ : {A B : Type 0} → Result A ℕ → (A → Result B ℕ) → Result B ℕ
(Ok x) >>= f = f x
(Err left) >>= f = Err left

-- the field that begins here can't be read
abbrev pub stop : {A : Type 0} → List ℕ → Result A ℕ
stop bytes = Err (length bytes)

-- it can, where the test is passed
abbrev pub pass : {A : Type 0} → Bool → List ℕ → A → Result A ℕ
pass true bytes x = Ok x
pass false bytes x = stop bytes

-- a field of several parts: where one can't be read, the field can't
abbrev pub field : {A : Type 0} → List ℕ → Result A ℕ → Result A ℕ
field bytes (Ok x) = Ok x
field bytes (Err left) = stop bytes

-- what is read, made into another value
abbrev pub made : {A B : Type 0} → (A → B) → Read A → Read B
made f read = read >>= λ x. Ok (f x.0, x.1)

-- ---- numbers, names and lists

unfoldable pub byte_at : Reader ℕ
byte_at [] = Err 0
byte_at (byte ∷ rest) = Ok (byte, rest)

-- so many bytes
unfoldable pub part_at : ℕ → Reader (List ℕ)
part_at n bytes = pass (nat_le n (length bytes)) bytes (take n bytes, drop n bytes)

-- the number of so many bytes
unfoldable pub number_at : ℕ → Reader ℕ
number_at n bytes = made number_of (part_at n bytes)

abbrev pub is_ident : List ℕ → Bool
is_ident name = nat_lt 0 (length name) && (nat_le (length name) 64 && list_all is_ident_byte name)

-- bytes behind how many they are, in one byte or in two: one field
unfoldable pub short_at : Reader (List ℕ)
short_at bytes = field bytes (byte_at bytes >>= λ n. part_at n.0 n.1)

unfoldable pub string_at : Reader (List ℕ)
string_at bytes = field bytes (number_at 2 bytes >>= λ n. part_at n.0 n.1)

unfoldable pub name_at : Reader (List ℕ)
name_at bytes = do
  name ← short_at bytes
  pass (is_ident name.0) bytes name

-- so many items
unfoldable pub many : {A : Type 0} → Reader A → ℕ → Reader (List A)
many item zero bytes = Ok ([], bytes)
many item (suc n) bytes = do
  first ← item bytes
  others ← many item n first.1
  Ok (first.0 ∷ others.0, others.1)

-- how many items, from a least to a greatest number
unfoldable pub count_at : ℕ → ℕ → Reader ℕ
count_at least most bytes = do
  n ← number_at 4 bytes
  pass (nat_le least n.0 && nat_le n.0 most) bytes n

unfoldable pub list_at : {A : Type 0} → ℕ → Reader A → Reader (List A)
list_at least item bytes = do
  n ← count_at least (2 ^ 32) bytes
  many item n.0 n.1

-- the position of a column, of so many
unfoldable pub position_at : ℕ → Reader ℕ
position_at width bytes = do
  n ← number_at 4 bytes
  pass (nat_lt n.0 width) bytes n

abbrev pub positions_at : ℕ → ℕ → Reader (List ℕ)
positions_at least width bytes = list_at least (position_at width) bytes

-- ---- columns and keys

unfoldable pub int_at : Reader ℤ
int_at bytes = made (cast_signed w64) (number_at 8 bytes)

unfoldable pub day_at : Reader ℤ
day_at bytes = made (cast_signed w32) (number_at 4 bytes)

-- a cell, behind its kind
unfoldable pub cell_behind : List ℕ → ℕ → Reader Value
cell_behind start kind rest =
    if kind == 0 then Ok (value.Null, rest)
    else if kind == 1 then made value.Int (int_at rest)
    else if kind == 2 then made value.Day (day_at rest)
    else if kind == 3 then made value.Bytes (string_at rest)
    else stop start

unfoldable pub cell_at : Reader Value
cell_at bytes = byte_at bytes >>= λ kind. cell_behind bytes kind.0 kind.1

unfoldable pub kind_behind : List ℕ → ℕ → Reader Kind
kind_behind start code rest =
    if code == 1 then Ok (kind.Int, rest)
    else if code == 2 then Ok (kind.BigInt, rest)
    else if code == 3 then Ok (kind.Date, rest)
    else if code == 4 then made kind.Binary (number_at 2 rest)
    else stop start

unfoldable pub kind_at : Reader Kind
kind_at bytes = byte_at bytes >>= λ code. kind_behind bytes code.0 code.1

-- 0 or 1
unfoldable pub flag_at : Reader Bool
flag_at bytes = do
  flag ← byte_at bytes
  pass (nat_lt flag.0 2) bytes (flag.0 == 1, flag.1)

unfoldable pub default_at : Reader (Option Value)
default_at bytes = flag_at bytes >>= λ flag. if flag.0 then made Some (cell_at flag.1) else Ok (None, flag.1)

unfoldable pub column_at : Reader Column
column_at bytes = do
  name ← name_at bytes
  kind ← kind_at name.1
  not_null ← flag_at kind.1
  default ← default_at not_null.1
  Ok (record { name = name.0; kind = kind.0; not_null = not_null.0; default = default.0 }, default.1)

abbrev pub rank_of : ℕ → Option Rank
rank_of code = if code == 1 then Some rank.Primary else if code == 2 then Some rank.Unique else if code == 3 then Some rank.Plain else None

-- a number that stands for something
abbrev pub meant : {A : Type 0} → List ℕ → Option A → List ℕ → Read A
meant start (Some x) rest = Ok (x, rest)
meant start None rest = stop start

unfoldable pub rank_at : Reader Rank
rank_at bytes = byte_at bytes >>= λ code. meant bytes (rank_of code.0) code.1

-- a primary key is named PRIMARY
abbrev pub may_name : Rank → List ℕ → Bool
may_name rank.Primary name = bytes_eq name (codes "PRIMARY")
may_name rank.Unique name = true
may_name rank.Plain name = true

unfoldable pub key_name_at : Rank → Reader (List ℕ)
key_name_at rank bytes = do
  name ← name_at bytes
  pass (may_name rank name.0) bytes name

unfoldable pub key_at : ℕ → Reader KeyDef
key_at width bytes = do
  rank ← rank_at bytes
  name ← key_name_at rank.0 rank.1
  columns ← positions_at 1 width name.1
  Ok (record { rank = rank.0; name = name.0; columns = columns.0 }, columns.1)

-- ---- expressions

-- a number of sixteen bytes that isn't negative
unfoldable pub whole_at : Reader ℤ
whole_at bytes = if nat_lt (length bytes) 16 then stop bytes else do
  low ← number_at 8 bytes
  high ← number_at 8 low.1
  pass (nat_lt high.0 (2 ^ 63)) bytes (pos (2 ^ 64 * high.0 + low.0), high.1)

-- a day that fits DATE
unfoldable pub date_at : Reader (Option ℤ)
date_at bytes = do
  day ← day_at bytes
  pass (fits_date day.0) bytes (Some day.0, day.1)

abbrev pub name_of : List Column → ℕ → List ℕ
name_of columns number = slice_index_or (map (λ column. column.name) columns) number []

-- the name of the column at a position, where it is the first of this name
unfoldable pub first_named : List Column → ℕ → Option (List ℕ)
first_named columns number = if nat_lt number (length columns) && column_place (name_of columns number) columns == number then Some (name_of columns number) else None

unfoldable pub named_at : List Column → Reader (List ℕ)
named_at columns bytes = number_at 4 bytes >>= λ n. meant bytes (first_named columns n.0) n.1

abbrev pub op_of : ℕ → Option Op
op_of code = if code == 1 then Some op.Times else if code == 2 then Some op.Div else if code == 3 then Some op.Mod else None

unfoldable pub op_at : Reader Op
op_at bytes = byte_at bytes >>= λ code. meant bytes (op_of code.0) code.1

abbrev pub func_of : ℕ → Option Func
func_of code =
    if code == 8 then Some func.Abs
    else if code == 9 then Some func.Year
    else if code == 10 then Some func.Month
    else if code == 11 then Some func.DayOfMonth
    else if code == 12 then Some func.DayOfYear
    else if code == 13 then Some func.DayOfWeek
    else if code == 14 then Some func.Weekday
    else if code == 15 then Some func.Quarter
    else if code == 16 then Some func.ToDays
    else None

-- plus: 0
unfoldable pub plus_at : Reader Bool
plus_at bytes = do
  flag ← byte_at bytes
  pass (flag.0 == 0) bytes (false, flag.1)

-- a part of a sum or a product, behind what is read before it by another reader
unfoldable pub pair_at : {A B : Type 0} → Reader A → Reader B → Reader (A × B)
pair_at first second bytes = do
  a ← first bytes
  b ← second a.1
  Ok ((a.0, b.0), b.1)

-- two parts at least, the first one with plus
unfoldable pub terms_at : Reader Expr → Reader (List (Bool × Expr))
terms_at inner bytes = do
  n ← count_at 2 (2 ^ 32) bytes
  first ← pair_at plus_at inner n.1
  others ← many (pair_at flag_at inner) (n.0 - 1) first.1
  Ok (first.0 ∷ others.0, others.1)

-- one part at least
unfoldable pub factors_at : Reader Expr → Reader (List (Op × Expr))
factors_at inner bytes = list_at 1 (pair_at op_at inner) bytes

unfoldable pub product_at : Reader Expr → Reader Expr
product_at inner bytes = do
  first ← inner bytes
  parts ← factors_at inner first.1
  Ok (tree.Product first.0 parts.0, parts.1)

-- a function of an expression
unfoldable pub call_at : Reader Expr → List ℕ → Option Func → Reader Expr
call_at inner start (Some called) rest = made (tree.Call called) (inner rest)
call_at inner start None rest = stop start

-- a node, behind its number; the nodes below it are read by `inner`
unfoldable pub node_behind : List Column → Reader Expr → List ℕ → ℕ → Reader Expr
node_behind columns inner start node rest =
    if node == 1 then made tree.Number (whole_at rest)
    else if node == 2 then made tree.Date (date_at rest)
    else if node == 3 then Ok (tree.Null, rest)
    else if node == 4 then made tree.Column (named_at columns rest)
    else if node == 5 then made tree.Neg (inner rest)
    else if node == 6 then made tree.Sum (terms_at inner rest)
    else if node == 7 then product_at inner rest
    else if node == 17 then made tree.Text (string_at rest)
    else if node == 18 then made tree.Hex (string_at rest)
    else call_at inner start (func_of node) rest

-- an expression that nests so deep at most
unfoldable pub expr_at : List Column → ℕ → Reader Expr
expr_at columns zero bytes = stop bytes
expr_at columns (suc room) bytes = byte_at bytes >>= λ node. node_behind columns (expr_at columns room) bytes node.0 node.1

-- ---- partitions

-- a partitioning, behind its number; `main` where it may be any
unfoldable pub by_behind : Bool → List Column → ℕ → List ℕ → ℕ → Reader PartBy
by_behind main columns room start code rest =
    if code == 0 then Ok (by.Whole, rest)
    else if main && code == 1 then made by.Range (expr_at columns room rest)
    else if main && code == 2 then made by.List (expr_at columns room rest)
    else if main && code == 3 then made by.RangeColumns (positions_at 1 (length columns) rest)
    else if main && code == 4 then made by.ListColumns (positions_at 1 (length columns) rest)
    else if code == 5 then made (by.Hash false) (expr_at columns room rest)
    else if code == 6 then made (by.Hash true) (expr_at columns room rest)
    else if code == 7 then made (by.Key false) (positions_at 0 (length columns) rest)
    else if code == 8 then made (by.Key true) (positions_at 0 (length columns) rest)
    else stop start

unfoldable pub by_at : Bool → List Column → ℕ → Reader PartBy
by_at main columns room bytes = byte_at bytes >>= λ code. by_behind main columns room bytes code.0 code.1

-- MAXVALUE, or a cell
unfoldable pub bound_at : Reader Bound
bound_at bytes = do
  kind ← byte_at bytes
  if kind.0 == 255 then Ok (bound.Max, kind.1) else made bound.Val (cell_behind bytes kind.0 kind.1)

unfoldable pub tuple_at : ℕ → Reader (List Bound)
tuple_at width bytes = many bound_at width bytes

-- the bounds of a partition
unfoldable pub bounds_at : PartBy → Reader (List (List Bound))
bounds_at (by.Range expr) bytes = many (tuple_at 1) 1 bytes
bounds_at (by.RangeColumns numbers) bytes = many (tuple_at (length numbers)) 1 bytes
bounds_at (by.List expr) bytes = list_at 1 (tuple_at 1) bytes
bounds_at (by.ListColumns numbers) bytes = list_at 1 (tuple_at (length numbers)) bytes
bounds_at _ bytes = Ok ([], bytes)

unfoldable pub subs_at : PartBy → Reader (List (List ℕ))
subs_at by.Whole bytes = Ok ([], bytes)
subs_at _ bytes = list_at 0 name_at bytes

unfoldable pub part_def_at : PartBy → PartBy → Reader PartDef
part_def_at main sub bytes = do
  name ← name_at bytes
  bounds ← bounds_at main name.1
  subs ← subs_at sub bounds.1
  Ok (record { name = name.0; bounds = bounds.0; subs = subs.0 }, subs.1)

-- ---- the whole

-- what stands behind the partitioning
unfoldable pub behind_at : List Column → ℕ → PartBy → Reader (PartBy × List PartDef)
behind_at columns room by.Whole bytes = Ok ((by.Whole, []), bytes)
behind_at columns room main bytes = do
  sub ← by_at false columns room bytes
  parts ← list_at 0 (part_def_at main sub.0) sub.1
  Ok ((sub.0, parts.0), parts.1)

-- all of the bytes
unfoldable pub body_at : ℕ → List ℕ → Result TableDef ℕ
body_at room bytes = do
  n ← count_at 1 1_000_000 bytes
  columns ← many column_at n.0 n.1
  keys ← list_at 0 (key_at (length columns.0)) columns.1
  main ← by_at true columns.0 room keys.1
  behind ← behind_at columns.0 room main.0 main.1
  if length behind.1 == 0 then Ok (record { columns = columns.0; keys = keys.0; by = main.0; sub = behind.0.0; parts = behind.0.1 }) else stop behind.1

-- the place of the field, from how many bytes there are from it to the end
abbrev pub placed : {A : Type 0} → ℕ → Result A ℕ → Result A ℕ
placed long (Ok x) = Ok x
placed long (Err left) = Err (long - left)

-- the length is the number of bytes that follow
unfoldable pub has_length : List ℕ → Bool
has_length bytes = nat_le 12 (length bytes) && number_of (take 8 (drop 4 bytes)) == length bytes - 12

-- The definition that the bytes spell, or the place of the first field that can't be read: 0 for the first four bytes, 4 where the
-- length isn't the number of bytes that follow, and where bytes follow the last field, the first of these.
unfoldable pub def_at : List ℕ → Result TableDef ℕ
def_at bytes = if bytes_eq (take 4 bytes) head_text then (if has_length bytes then placed (length bytes) (body_at 300 (drop 12 bytes)) else Err 4) else Err 0
