-- What an expression comes to on the cells of a row. Numbers are whole numbers of any size.
use Rattle.std.specs.Prelude.{ℤ, pos, neg_ℤ, ◌+ℤ◌, ◌-ℤ◌, ◌*ℤ◌, int_div, int_rem, unsigned_abs, Bool, true, if◌then◌else◌, List, fold, Option, Some, None}
use Rattle.pt_value.specs.Calendar.{date_of, day_of_year, days_after_monday, days_after_sunday, quarter_of}
use Rattle.pt_value.specs.declared.value.Value.{Value}
use Rattle.pt_value.specs.declared.value.Value.TheVariants.{Null, Int, Day, Bytes}
use Rattle.pt_ast.specs.declared.table.Column.{Column}
use Rattle.pt_ast.specs.declared.tree.Op.{Op}
use Rattle.pt_ast.specs.declared.tree.Op.TheVariants as op
use Rattle.pt_ast.specs.declared.tree.Func.{Func}
use Rattle.pt_ast.specs.declared.tree.Func.TheVariants as func
use Rattle.pt_ast.specs.declared.tree.Expr.{Expr, fold-Expr}
use Rattle.pt_ast.specs.declared.tree.Expr.TheViews.{out-Expr}
use Rattle.pt_ast.specs.declared.tree.Expr.TheOpen.{Expr-F}
use Rattle.pt_expr.specs.Columns.{cell_named}
use Rattle.pt_value.specs.Text.{day_of}

-- ---- arithmetic: NULL where an operand is

abbrev pub on_number : (ℤ → ℤ) → Value → Value
on_number f (Int n) = Int (f n)
on_number f _ = Null

abbrev pub on_numbers : (ℤ → ℤ → ℤ) → Value → Value → Value
on_numbers f (Int a) (Int b) = Int (f a b)
on_numbers f _ _ = Null

-- one more part of a sum, true where it is taken away
abbrev pub plus : Value → Bool × Value → Value
plus before part = on_numbers (if part.0 then ◌-ℤ◌ else ◌+ℤ◌) before part.1

-- DIV truncates toward zero, and MOD has the sign of the dividend
abbrev pub operation : Op → ℤ → ℤ → ℤ
operation op.Times a b = a *ℤ b
operation op.Div a b = int_div a b
operation op.Mod a b = int_rem a b

abbrev pub times : Value → Op × Value → Value
times before part = on_numbers (operation part.0) before part.1

-- ---- dates

abbrev pub day_or_null : Option ℤ → Value
day_or_null (Some day) = Day day
day_or_null None = Null

-- bytes that stand for a date are its day
abbrev pub as_day : Value → Value
as_day (Bytes bytes) = day_or_null (day_of bytes)
as_day value = value

abbrev pub on_day : (ℤ → ℤ) → Value → Value
on_day f (Day day) = Int (f day)
on_day f _ = Null

-- what a date function is of a day; ABS is none
abbrev pub part_of_day : Func → ℤ → ℤ
part_of_day func.Abs day = pos 0
part_of_day func.Year day = pos (date_of day).year
part_of_day func.Month day = pos (date_of day).month
part_of_day func.DayOfMonth day = pos (date_of day).day
part_of_day func.DayOfYear day = pos (day_of_year (date_of day))
part_of_day func.DayOfWeek day = days_after_sunday day +ℤ pos 1
part_of_day func.Weekday day = days_after_monday day
part_of_day func.Quarter day = pos (quarter_of (date_of day).month)
part_of_day func.ToDays day = day +ℤ pos 719_528

abbrev pub call : Func → Value → Value
call func.Abs part = on_number (λ n. pos (unsigned_abs n)) part
call func part = on_day (part_of_day func) (as_day part)

-- ---- all nodes

-- a node, from the values of its parts
abbrev pub value_step : List Column → List Value → Expr-F Value → Value
value_step columns cells (Expr-F.Number n) = Int n
value_step columns cells (Expr-F.Text bytes) = Bytes bytes
value_step columns cells (Expr-F.Hex bytes) = Bytes bytes
value_step columns cells (Expr-F.Date day) = day_or_null day
value_step columns cells Expr-F.Null = Null
value_step columns cells (Expr-F.Column name) = cell_named name columns cells
value_step columns cells (Expr-F.Neg part) = on_number neg_ℤ part
value_step columns cells (Expr-F.Sum parts) = fold plus (Int (pos 0)) parts
value_step columns cells (Expr-F.Product first parts) = fold times first parts
value_step columns cells (Expr-F.Call func part) = call func part

-- what an expression comes to on these cells
abbrev pub value : List Column → List Value → Expr → Value
value columns cells = fold-Expr Value (value_step columns cells)

-- ---- a whole expression

-- where a date is wanted, a text that is the whole expression stands for one
abbrev pub wanted : Bool → Expr-F Expr → Value → Value
wanted true (Expr-F.Text bytes) value = as_day value
wanted date expr value = value

abbrev pub whole_value : List Column → Expr → Bool → List Value → Value
whole_value columns expr date cells = wanted date (out-Expr expr) (value columns cells expr)
