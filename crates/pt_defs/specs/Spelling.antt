-- The file of a table's definition, item by item in the order of the file. docs/FILES.md, "Definitions".
--
--     file       = "PTD", 1, how many bytes follow in eight bytes, and these
--     body       = columns, keys, partitioning; where that isn't 0, subpartitioning and partitions
--     column     = name, kind, 1 for NOT NULL or 0, default
--     kind       = 1 | 2 | 3 | 4 and a length in two bytes          INT, BIGINT, DATE, VARBINARY
--     default    = 0 | 1 and a cell
--     key        = 1 | 2 | 3, name, positions                       PRIMARY KEY, UNIQUE KEY, KEY
--     by         = 0 | 1 expr | 2 expr | 3 positions | 4 positions | 5 expr | 6 expr | 7 positions | 8 positions
--     partition  = name, bounds, names of subpartitions where there are any
--     cell       = 0 | 1 and an i64 | 2 and an i32 day | 3 and a string
--     item       = a cell | 255                                     a bound: a value, or MAXVALUE
--
-- A list is how many items it has, in four bytes, and the items. A name is its length in one byte, and the name; a string has its
-- length in two bytes. Numbers have their lowest byte first.
use Rattle.std.specs.Prelude.{◌≡◌, ℕ, ◌<◌, ◌^◌, ℤ, Bool, true, false, List, [], ◌∷◌, ◌++◌, length, map, Option, Some, None, codes}
use Rattle.std.specs.Int.{w32, w64, w128, cast_unsigned}
use Rattle.std.specs.List.{flat_map, position_or_len}
use Rattle.std.specs.Str.{bytes_eq}
use Rattle.pt_value.specs.declared.value.Value.{Value}
use Rattle.pt_value.specs.declared.value.Value.TheVariants as value
use Rattle.pt_value.specs.declared.value.Kind.{Kind}
use Rattle.pt_value.specs.declared.value.Kind.TheVariants as kind
use Rattle.pt_bytes.specs.Numbers.{le_bytes}
use Rattle.pt_ast.specs.declared.tree.Func.{Func}
use Rattle.pt_ast.specs.declared.tree.Func.TheVariants as func
use Rattle.pt_ast.specs.declared.tree.Op.{Op}
use Rattle.pt_ast.specs.declared.tree.Op.TheVariants as op
use Rattle.pt_ast.specs.declared.tree.Expr.{Expr, fold-Expr}
use Rattle.pt_ast.specs.declared.tree.Expr.TheOpen.{Expr-F}
use Rattle.pt_ast.specs.declared.table.Column.{Column}
use Rattle.pt_ast.specs.declared.table.Rank.{Rank}
use Rattle.pt_ast.specs.declared.table.Rank.TheVariants as rank
use Rattle.pt_ast.specs.declared.table.KeyDef.{KeyDef}
use Rattle.pt_ast.specs.declared.table.PartBy.{PartBy}
use Rattle.pt_ast.specs.declared.table.PartBy.TheVariants as by
use Rattle.pt_ast.specs.declared.table.Bound.{Bound}
use Rattle.pt_ast.specs.declared.table.Bound.TheVariants as bound
use Rattle.pt_ast.specs.declared.table.PartDef.{PartDef}
use Rattle.pt_ast.specs.declared.table.TableDef.{TableDef}
use Rattle.pt_ast.specs.StorableDef.{IsStorableDef}

-- ---- numbers, names and lists

abbrev pub i32_text : ℤ → List ℕ
i32_text n = le_bytes 4 (cast_unsigned w32 n)

abbrev pub i64_text : ℤ → List ℕ
i64_text n = le_bytes 8 (cast_unsigned w64 n)

abbrev pub i128_text : ℤ → List ℕ
i128_text n = le_bytes 16 (cast_unsigned w128 n)

unfoldable pub name_text : List ℕ → List ℕ
name_text name = length name ∷ name

unfoldable pub string_text : List ℕ → List ℕ
string_text bytes = le_bytes 2 (length bytes) ++ bytes

unfoldable pub list_text : {A : Type 0} → (A → List ℕ) → List A → List ℕ
list_text text items = le_bytes 4 (length items) ++ flat_map text items

-- positions of columns
abbrev pub positions_text : List ℕ → List ℕ
positions_text numbers = list_text (le_bytes 4) numbers

-- ---- columns and keys

unfoldable pub cell_text : Value → List ℕ
cell_text value.Null = 0 ∷ []
cell_text (value.Int n) = 1 ∷ i64_text n
cell_text (value.Day day) = 2 ∷ i32_text day
cell_text (value.Bytes bytes) = 3 ∷ string_text bytes

unfoldable pub kind_text : Kind → List ℕ
kind_text kind.Int = 1 ∷ []
kind_text kind.BigInt = 2 ∷ []
kind_text kind.Date = 3 ∷ []
kind_text (kind.Binary most) = 4 ∷ le_bytes 2 most

-- 1 for true
abbrev pub flag : Bool → ℕ
flag false = 0
flag true = 1

unfoldable pub default_text : Option Value → List ℕ
default_text None = 0 ∷ []
default_text (Some cell) = 1 ∷ cell_text cell

unfoldable pub column_text : Column → List ℕ
column_text column = name_text column.name ++ (kind_text column.kind ++ (flag column.not_null ∷ default_text column.default))

abbrev pub rank_code : Rank → ℕ
rank_code rank.Primary = 1
rank_code rank.Unique = 2
rank_code rank.Plain = 3

unfoldable pub key_text : KeyDef → List ℕ
key_text key = rank_code key.rank ∷ (name_text key.name ++ positions_text key.columns)

-- ---- expressions
--
--     expr = 1 and an i128 | 2 and an i32 day | 3 | 4 and a position | 5 expr | 6 terms | 7 expr factors | 8 to 16 expr
--          | 17 and a string | 18 and a string
--     term = 0 or 1, expr     factor = 1, 2 or 3, expr
--
-- A number, a date, NULL, a column, a negation, a sum (1 for minus), a product (1 for `*`, 2 for DIV, 3 for MOD), ABS, YEAR, MONTH,
-- DAYOFMONTH, DAYOFYEAR, DAYOFWEEK, WEEKDAY, QUARTER, TO_DAYS, a text and a hexadecimal text.

-- the position of the first column of this name
abbrev pub column_place : List ℕ → List Column → ℕ
column_place name columns = position_or_len (λ column. bytes_eq column.name name) columns

abbrev pub op_code : Op → ℕ
op_code op.Times = 1
op_code op.Div = 2
op_code op.Mod = 3

abbrev pub func_code : Func → ℕ
func_code func.Abs = 8
func_code func.Year = 9
func_code func.Month = 10
func_code func.DayOfMonth = 11
func_code func.DayOfYear = 12
func_code func.DayOfWeek = 13
func_code func.Weekday = 14
func_code func.Quarter = 15
func_code func.ToDays = 16

abbrev pub term_text : Bool × List ℕ → List ℕ
term_text term = flag term.0 ∷ term.1

abbrev pub factor_text : Op × List ℕ → List ℕ
factor_text factor = op_code factor.0 ∷ factor.1

-- `DATE` and a text that is no date stands in no definition
abbrev pub date_text : Option ℤ → List ℕ
date_text None = []
date_text (Some day) = i32_text day

-- a node, from the texts of its parts
abbrev pub node_text : List Column → Expr-F (List ℕ) → List ℕ
node_text columns (Expr-F.Number n) = 1 ∷ i128_text n
node_text columns (Expr-F.Date day) = 2 ∷ date_text day
node_text columns Expr-F.Null = 3 ∷ []
node_text columns (Expr-F.Column name) = 4 ∷ le_bytes 4 (column_place name columns)
node_text columns (Expr-F.Neg part) = 5 ∷ part
node_text columns (Expr-F.Sum parts) = 6 ∷ list_text term_text parts
node_text columns (Expr-F.Product first parts) = 7 ∷ (first ++ list_text factor_text parts)
node_text columns (Expr-F.Call called part) = func_code called ∷ part
node_text columns (Expr-F.Text bytes) = 17 ∷ string_text bytes
node_text columns (Expr-F.Hex bytes) = 18 ∷ string_text bytes

abbrev pub expr_text : List Column → Expr → List ℕ
expr_text columns = fold-Expr (List ℕ) (node_text columns)

-- the parts of a sum, and the later parts of a product
abbrev pub terms_text : List Column → List (Bool × Expr) → List ℕ
terms_text columns parts = list_text term_text (map (λ part. (part.0, expr_text columns part.1)) parts)

abbrev pub factors_text : List Column → List (Op × Expr) → List ℕ
factors_text columns parts = list_text factor_text (map (λ part. (part.0, expr_text columns part.1)) parts)

-- ---- partitions

abbrev pub linear : Bool → ℕ → ℕ → ℕ
linear false plain other = plain
linear true plain other = other

unfoldable pub by_text : List Column → PartBy → List ℕ
by_text columns by.Whole = 0 ∷ []
by_text columns (by.Range expr) = 1 ∷ expr_text columns expr
by_text columns (by.List expr) = 2 ∷ expr_text columns expr
by_text columns (by.RangeColumns numbers) = 3 ∷ positions_text numbers
by_text columns (by.ListColumns numbers) = 4 ∷ positions_text numbers
by_text columns (by.Hash is_linear expr) = linear is_linear 5 6 ∷ expr_text columns expr
by_text columns (by.Key is_linear numbers) = linear is_linear 7 8 ∷ positions_text numbers

unfoldable pub bound_text : Bound → List ℕ
bound_text (bound.Val cell) = cell_text cell
bound_text bound.Max = 255 ∷ []

abbrev pub tuple_text : List Bound → List ℕ
tuple_text tuple = flat_map bound_text tuple

-- one tuple of a range, a list of tuples, nothing
unfoldable pub bounds_text : PartBy → List (List Bound) → List ℕ
bounds_text (by.Range expr) tuples = flat_map tuple_text tuples
bounds_text (by.RangeColumns numbers) tuples = flat_map tuple_text tuples
bounds_text (by.List expr) tuples = list_text tuple_text tuples
bounds_text (by.ListColumns numbers) tuples = list_text tuple_text tuples
bounds_text _ tuples = []

unfoldable pub subs_text : PartBy → List (List ℕ) → List ℕ
subs_text by.Whole names = []
subs_text _ names = list_text name_text names

unfoldable pub part_text : PartBy → PartBy → PartDef → List ℕ
part_text main sub part = name_text part.name ++ (bounds_text main part.bounds ++ subs_text sub part.subs)

-- ---- the whole

-- behind the partitioning: nothing where there is none
unfoldable pub behind_text : TableDef → PartBy → List ℕ
behind_text def by.Whole = []
behind_text def main = by_text def.columns def.sub ++ list_text (part_text main def.sub) def.parts

unfoldable pub body_text : TableDef → List ℕ
body_text def = list_text column_text def.columns ++ (list_text key_text def.keys ++ (by_text def.columns def.by ++ behind_text def def.by))

abbrev pub head_text : List ℕ
head_text = codes "PTD" ++ 1 ∷ []

unfoldable pub def_text : TableDef → List ℕ
def_text def = head_text ++ (le_bytes 8 (length (body_text def)) ++ body_text def)

-- These bytes, all of them, spell this definition.
pub record Spells (bytes : List ℕ) (def : TableDef) : Type 0 where
  pub storable : IsStorableDef def
  pub few : length (body_text def) < 2 ^ 64
  pub text : bytes ≡ def_text def
