-- The text of SHOW CREATE TABLE, after the manual's topic "SHOW CREATE TABLE Statement". docs/FILES.md, "SHOW CREATE TABLE".
use Rattle.std.specs.Prelude.{ℕ, zero, suc, Bool, true, false, nat_lt, ◌==◌, if◌then◌else◌, ℤ, List, [], ◌∷◌, ◌++◌, length, map, Option, Some, None, codes}
use Rattle.std.specs.List.{flat_map}
use Rattle.std.specs.Fmt.{signed_decimal, decimal}
use Rattle.pt_value.specs.Calendar.{date_of}
use Rattle.pt_value.specs.Fits.{fits_date}
use Rattle.pt_value.specs.Text.{bytes_text, date_text}
use Rattle.pt_value.specs.declared.value.Value.{Value}
use Rattle.pt_value.specs.declared.value.Value.TheVariants as value
use Rattle.pt_value.specs.declared.value.Kind.{Kind}
use Rattle.pt_value.specs.declared.value.Kind.TheVariants as kind
use Rattle.pt_ast.specs.declared.tree.Func.{Func}
use Rattle.pt_ast.specs.declared.tree.Func.TheVariants as func
use Rattle.pt_ast.specs.declared.tree.Op.{Op}
use Rattle.pt_ast.specs.declared.tree.Op.TheVariants as op
use Rattle.pt_ast.specs.declared.tree.Expr.{Expr, fold-Expr}
use Rattle.pt_ast.specs.declared.tree.Expr.TheOpen.{Expr-F}
use Rattle.pt_ast.specs.declared.table.Column.{Column}
use Rattle.pt_ast.specs.declared.table.Rank.{Rank}
use Rattle.pt_ast.specs.declared.table.Rank.TheVariants as rank
use Rattle.pt_ast.specs.declared.table.KeyDef.{KeyDef}
use Rattle.pt_ast.specs.declared.table.PartBy.{PartBy}
use Rattle.pt_ast.specs.declared.table.PartBy.TheVariants as by
use Rattle.pt_ast.specs.declared.table.Bound.{Bound}
use Rattle.pt_ast.specs.declared.table.Bound.TheVariants as bound
use Rattle.pt_ast.specs.declared.table.PartDef.{PartDef}
use Rattle.pt_ast.specs.declared.table.TableDef.{TableDef}
use Rattle.pt_defs.specs.Spelling.{rank_code}
use Rattle.pt_defs.specs.Reading.{name_of}

-- texts with a separator between them
abbrev pub joined : List ℕ → List (List ℕ) → List ℕ
joined between [] = []
joined between (first ∷ more) = first ++ flat_map (λ text. between ++ text) more

-- what stands before the item at a place: nothing before the first
abbrev pub gap : List ℕ → ℕ → List ℕ
gap between zero = []
gap between (suc place) = between

-- a name in backquotes
unfoldable pub quoted : List ℕ → List ℕ
quoted name = codes "`" ++ name ++ codes "`"

-- the names of the columns at these positions
unfoldable pub columns_named : List Column → List ℕ → List ℕ
columns_named columns numbers = codes "(" ++ joined (codes ",") (map (λ number. quoted (name_of columns number)) numbers) ++ codes ")"

-- ---- columns and keys

-- a day that fits DATE
unfoldable pub day_shown : ℤ → List ℕ
day_shown day = if fits_date day then date_text (date_of day) else []

-- a value as SELECT prints it, but a date in quotes
unfoldable pub constant : Value → List ℕ
constant value.Null = codes "NULL"
constant (value.Int n) = signed_decimal n
constant (value.Day day) = codes "'" ++ day_shown day ++ codes "'"
constant (value.Bytes bytes) = bytes_text bytes

unfoldable pub kind_shown : Kind → List ℕ
kind_shown kind.Int = codes "int"
kind_shown kind.BigInt = codes "bigint"
kind_shown kind.Date = codes "date"
kind_shown (kind.Binary most) = codes "varbinary(" ++ decimal most ++ codes ")"

unfoldable pub null_shown : Bool → List ℕ
null_shown true = codes " NOT NULL"
null_shown false = []

-- a nullable column without a default has NULL
unfoldable pub default_shown : Bool → Option Value → List ℕ
default_shown not_null (Some cell) = codes " DEFAULT " ++ constant cell
default_shown true None = []
default_shown false None = codes " DEFAULT NULL"

unfoldable pub column_shown : Column → List ℕ
column_shown column = quoted column.name ++ codes " " ++ kind_shown column.kind ++ null_shown column.not_null ++ default_shown column.not_null column.default

unfoldable pub key_begun : Rank → List ℕ → List ℕ
key_begun rank.Primary name = codes "PRIMARY KEY "
key_begun rank.Unique name = codes "UNIQUE KEY " ++ quoted name ++ codes " "
key_begun rank.Plain name = codes "KEY " ++ quoted name ++ codes " "

-- the line of a key of this rank, behind the line before it
unfoldable pub key_line : List Column → Rank → KeyDef → List ℕ
key_line columns wanted key =
    if rank_code key.rank == rank_code wanted then codes ",\n  " ++ key_begun key.rank key.name ++ columns_named columns key.columns else []

unfoldable pub keys_shown : List Column → Rank → List KeyDef → List ℕ
keys_shown columns wanted keys = flat_map (key_line columns wanted) keys

-- ---- expressions: whether a node is a sum, a product or a negation, and its text

-- within a product, a negation and the later parts of a sum, such a node stands in parentheses
unfoldable pub operand : Bool × List ℕ → List ℕ
operand (true, text) = codes "(" ++ text ++ codes ")"
operand (false, text) = text

abbrev pub op_shown : Op → List ℕ
op_shown op.Times = codes " * "
op_shown op.Div = codes " DIV "
op_shown op.Mod = codes " MOD "

abbrev pub sign_shown : Bool → List ℕ
sign_shown true = codes " - "
sign_shown false = codes " + "

abbrev pub func_shown : Func → List ℕ
func_shown func.Abs = codes "ABS"
func_shown func.Year = codes "YEAR"
func_shown func.Month = codes "MONTH"
func_shown func.DayOfMonth = codes "DAYOFMONTH"
func_shown func.DayOfYear = codes "DAYOFYEAR"
func_shown func.DayOfWeek = codes "DAYOFWEEK"
func_shown func.Weekday = codes "WEEKDAY"
func_shown func.Quarter = codes "QUARTER"
func_shown func.ToDays = codes "TO_DAYS"

abbrev pub literal_day : Option ℤ → List ℕ
literal_day None = []
literal_day (Some day) = day_shown day

abbrev pub term_shown : Bool × (Bool × List ℕ) → List ℕ
term_shown part = sign_shown part.0 ++ operand part.1

abbrev pub factor_shown : Op × (Bool × List ℕ) → List ℕ
factor_shown part = op_shown part.0 ++ operand part.1

-- the part of a sum at a place: the first as it is, the others behind their signs
unfoldable pub term_at : ℕ → Bool × (Bool × List ℕ) → List ℕ
term_at zero part = part.1.1
term_at (suc place) part = term_shown part

-- the first part as it is, the others behind their signs
unfoldable pub sum_shown : List (Bool × (Bool × List ℕ)) → List ℕ
sum_shown [] = []
sum_shown (first ∷ more) = first.1.1 ++ flat_map term_shown more

unfoldable pub factors_shown : List (Op × (Bool × List ℕ)) → List ℕ
factors_shown parts = flat_map factor_shown parts

unfoldable pub product_shown : Bool × List ℕ → List (Op × (Bool × List ℕ)) → List ℕ
product_shown first parts = operand first ++ factors_shown parts

unfoldable pub call_shown : Func → List ℕ → List ℕ
call_shown called text = func_shown called ++ codes "(" ++ text ++ codes ")"

abbrev pub node_shown : Expr-F (Bool × List ℕ) → Bool × List ℕ
node_shown (Expr-F.Number n) = (false, signed_decimal n)
node_shown (Expr-F.Text bytes) = (false, bytes_text bytes)
node_shown (Expr-F.Hex bytes) = (false, bytes_text bytes)
node_shown (Expr-F.Date day) = (false, codes "DATE '" ++ literal_day day ++ codes "'")
node_shown Expr-F.Null = (false, codes "NULL")
node_shown (Expr-F.Column name) = (false, quoted name)
node_shown (Expr-F.Neg part) = (true, codes "-" ++ operand part)
node_shown (Expr-F.Sum parts) = (true, sum_shown parts)
node_shown (Expr-F.Product first parts) = (true, product_shown first parts)
node_shown (Expr-F.Call called part) = (false, call_shown called part.1)

abbrev pub shown_expr : Expr → Bool × List ℕ
shown_expr = fold-Expr (Bool × List ℕ) node_shown

-- the parts of a sum or a product, each with its text
abbrev pub parts_of : {A : Type 0} → List (A × Expr) → List (A × (Bool × List ℕ))
parts_of parts = map (λ part. (part.0, shown_expr part.1)) parts

-- ---- partitions

unfoldable pub linear_shown : Bool → List ℕ
linear_shown true = codes "LINEAR "
linear_shown false = []

-- words that begin a part
unfoldable pub range_columns : List ℕ
range_columns = codes "RANGE COLUMNS "

unfoldable pub list_columns : List ℕ
list_columns = codes "LIST COLUMNS "

unfoldable pub partition_by : List ℕ
partition_by = codes "\nPARTITION BY "

unfoldable pub subpartition_by : List ℕ
subpartition_by = codes "\nSUBPARTITION BY "

unfoldable pub subpartition : List ℕ
subpartition = codes "SUBPARTITION "

unfoldable pub create_table : List ℕ
create_table = codes "CREATE TABLE "

unfoldable pub by_shown : List Column → PartBy → List ℕ
by_shown columns by.Whole = []
by_shown columns (by.Range expr) = codes "RANGE (" ++ (shown_expr expr).1 ++ codes ")"
by_shown columns (by.List expr) = codes "LIST (" ++ (shown_expr expr).1 ++ codes ")"
by_shown columns (by.RangeColumns numbers) = range_columns ++ columns_named columns numbers
by_shown columns (by.ListColumns numbers) = list_columns ++ columns_named columns numbers
by_shown columns (by.Hash is_linear expr) = linear_shown is_linear ++ codes "HASH (" ++ (shown_expr expr).1 ++ codes ")"
by_shown columns (by.Key is_linear numbers) = linear_shown is_linear ++ codes "KEY " ++ columns_named columns numbers

unfoldable pub bound_shown : Bound → List ℕ
bound_shown (bound.Val cell) = constant cell
bound_shown bound.Max = codes "MAXVALUE"

unfoldable pub tuple_shown : List Bound → List ℕ
tuple_shown tuple = joined (codes ",") (map bound_shown tuple)

-- an entry of a list: a tuple of several columns stands in parentheses
unfoldable pub entry_shown : List Bound → List ℕ
entry_shown tuple = operand (nat_lt 1 (length tuple), tuple_shown tuple)

unfoldable pub bounds_shown : PartBy → List (List Bound) → List ℕ
bounds_shown (by.Range expr) tuples = codes " VALUES LESS THAN (" ++ joined (codes ",") (map tuple_shown tuples) ++ codes ")"
bounds_shown (by.RangeColumns numbers) tuples = codes " VALUES LESS THAN (" ++ joined (codes ",") (map tuple_shown tuples) ++ codes ")"
bounds_shown (by.List expr) tuples = codes " VALUES IN (" ++ joined (codes ",") (map entry_shown tuples) ++ codes ")"
bounds_shown (by.ListColumns numbers) tuples = codes " VALUES IN (" ++ joined (codes ",") (map entry_shown tuples) ++ codes ")"
bounds_shown _ tuples = []

unfoldable pub sub_line : List ℕ → List ℕ
sub_line name = subpartition ++ quoted name

-- subpartitions on lines of their own
unfoldable pub subs_shown : List (List ℕ) → List ℕ
subs_shown [] = []
subs_shown (first ∷ more) = codes "\n (" ++ joined (codes ",\n  ") (map sub_line (first ∷ more)) ++ codes ")"

unfoldable pub part_shown : PartBy → PartDef → List ℕ
part_shown main part = codes "PARTITION " ++ quoted part.name ++ bounds_shown main part.bounds ++ subs_shown part.subs

-- a line of the subpartitioning
unfoldable pub sub_shown : List Column → PartBy → List ℕ
sub_shown columns by.Whole = []
sub_shown columns sub = subpartition_by ++ by_shown columns sub

-- all partitions, the first one behind a parenthesis
unfoldable pub part_lines : PartBy → List PartDef → List ℕ
part_lines main parts = codes "\n(" ++ joined (codes ",\n ") (map (part_shown main) parts) ++ codes ")"

unfoldable pub parts_shown : TableDef → PartBy → List ℕ
parts_shown def by.Whole = []
parts_shown def main = partition_by ++ (by_shown def.columns main ++ (sub_shown def.columns def.sub ++ part_lines main def.parts))

-- ---- the whole

-- up to the last column
unfoldable pub head_shown : List ℕ → List Column → List ℕ
head_shown table columns = create_table ++ (quoted table ++ (codes " (\n  " ++ joined (codes ",\n  ") (map column_shown columns)))

-- the keys: the primary one, the unique ones, the plain ones
unfoldable pub all_keys : List Column → List KeyDef → List ℕ
all_keys columns keys = keys_shown columns rank.Primary keys ++ (keys_shown columns rank.Unique keys ++ keys_shown columns rank.Plain keys)

unfoldable pub shown_table : List ℕ → TableDef → List ℕ
shown_table table def = head_shown table def.columns ++ (all_keys def.columns def.keys ++ (codes "\n)" ++ (parts_shown def def.by ++ codes ";\n")))
