-- What an expression is found to be, or its first fault. Faults come from left to right, at each node those of its parts first,
-- then BadDate, then Mismatch, and TooWide last.
use Rattle.std.specs.Prelude.{ℕ, ◌-◌, ◌*◌, ◌^◌, ℤ, unsigned_abs, Bool, true, false, not, ◌&&◌, ◌==◌, nat_lt, if◌then◌else◌, List, [], ◌∷◌, map, sum_by, Option, Some, None, Result, Ok, Err}
use Rattle.std.specs.List.{list_all}
use Rattle.pt_value.specs.Fits.{fits_date}
use Rattle.pt_value.specs.declared.value.Kind.{Kind}
use Rattle.pt_value.specs.declared.value.Kind.TheVariants as kind
use Rattle.pt_ast.specs.declared.table.Column.{Column}
use Rattle.pt_ast.specs.declared.tree.Op.{Op}
use Rattle.pt_ast.specs.declared.tree.Op.TheVariants as op
use Rattle.pt_ast.specs.declared.tree.Func.{Func}
use Rattle.pt_ast.specs.declared.tree.Func.TheVariants as func
use Rattle.pt_ast.specs.declared.tree.Expr.{Expr, fold-Expr}
use Rattle.pt_ast.specs.declared.tree.Expr.TheOpen.{Expr-F}
use Rattle.pt_expr.specs.declared.kind.ExprKind.{ExprKind}
use Rattle.pt_expr.specs.declared.kind.ExprKind.TheVariants as expr
use Rattle.pt_expr.specs.declared.kind.CheckFault.{CheckFault}
use Rattle.pt_expr.specs.declared.kind.CheckFault.TheVariants.{NoColumn, Mismatch, TooWide, BadDate}
use Rattle.pt_expr.specs.declared.found.Shape.{Shape}
use Rattle.pt_expr.specs.declared.found.Shape.TheVariants as shape
use Rattle.pt_expr.specs.declared.found.Found.{Found}
use Rattle.pt_expr.specs.Columns.{column_named}
use Rattle.pt_value.specs.Text.{day_of}

-- ---- findings

-- what is found, or the first fault
abbrev pub Finding : Type 0
Finding = Result Found CheckFault

-- the fault, else what comes of what was found
abbrev pub after : {A B : Type 0} → Result A CheckFault → (A → Result B CheckFault) → Result B CheckFault
after (Ok x) next = next x
after (Err fault) next = Err fault

-- the first fault, else all that was found
abbrev pub all_found : {A : Type 0} → List (Result A CheckFault) → Result (List A) CheckFault
all_found [] = Ok []
all_found (first ∷ more) = after first (λ x. after (all_found more) (λ xs. Ok (x ∷ xs)))

-- what isn't a number has the bound 0
abbrev pub other : Shape → Found
other shape = record { shape = shape; bound = 0 }

abbrev pub wide : ℕ → Found
wide bound = record { shape = shape.Wide; bound = bound }

-- a bound has to be below 2^126
abbrev pub narrow : ℕ → Result ℕ CheckFault
narrow bound = if nat_lt bound (2 ^ 126) then Ok bound else Err TooWide

-- ---- kinds

-- NULL has every kind, and a text that spells a day may stand for it
abbrev pub may_be_wide : Shape → Bool
may_be_wide shape.Null = true
may_be_wide shape.Number = true
may_be_wide shape.Signed = true
may_be_wide shape.Wide = true
may_be_wide _ = false

abbrev pub may_be_day : Shape → Bool
may_be_day shape.Null = true
may_be_day shape.Day = true
may_be_day shape.DayText = true
may_be_day _ = false

abbrev pub may_be_bytes : Shape → Bool
may_be_bytes shape.Null = true
may_be_bytes shape.DayText = true
may_be_bytes shape.OtherText = true
may_be_bytes shape.Bytes = true
may_be_bytes _ = false

-- a number as written, with an optional sign
abbrev pub is_literal : Shape → Bool
is_literal shape.Number = true
is_literal shape.Signed = true
is_literal _ = false

-- ---- nodes without parts

abbrev pub number_found : ℕ → Found
number_found bound = record { shape = shape.Number; bound = bound }

abbrev pub number_finding : ℤ → Finding
number_finding n = after (narrow (unsigned_abs n)) (λ bound. Ok (number_found bound))

abbrev pub text_shape : Option ℤ → Shape
text_shape (Some day) = shape.DayText
text_shape None = shape.OtherText

abbrev pub date_finding : Option ℤ → Finding
date_finding (Some day) = if fits_date day then Ok (other shape.Day) else Err BadDate
date_finding None = Err BadDate

abbrev pub column_found : Kind → Found
column_found kind.Int = wide (2 ^ 31)
column_found kind.BigInt = wide (2 ^ 63)
column_found kind.Date = other shape.Day
column_found (kind.Binary most) = other shape.Bytes

abbrev pub column_finding : List ℕ → Option Column → Finding
column_finding name (Some column) = Ok (column_found column.kind)
column_finding name None = Err (NoColumn name)

-- ---- nodes with parts

-- a number as written has one sign at most
abbrev pub signed : Shape → Shape
signed shape.Number = shape.Signed
signed _ = shape.Wide

abbrev pub negated : Found → Found
negated part = record { shape = signed part.shape; bound = part.bound }

abbrev pub negation : Found → Finding
negation part = if may_be_wide part.shape then Ok (negated part) else Err Mismatch

abbrev pub sum_finding : List Found → Finding
sum_finding parts =
    if list_all (λ part. may_be_wide part.shape) parts then after (narrow (sum_by (λ part. part.bound) parts)) (λ bound. Ok (wide bound))
    else Err Mismatch

-- what an operator takes on its right: an integer, and DIV and MOD a number as written that isn't 0
abbrev pub takes : Op → Found → Bool
takes op.Times part = may_be_wide part.shape
takes op.Div part = is_literal part.shape && not (part.bound == 0)
takes op.Mod part = is_literal part.shape && not (part.bound == 0)

abbrev pub bound_after : ℕ → Op → ℕ → ℕ
bound_after bound op.Times part = bound * part
bound_after bound op.Div part = bound
bound_after bound op.Mod part = part - 1

-- the bound of a product, narrow after each operator
abbrev pub product_bound : ℕ → List (Op × Found) → Result ℕ CheckFault
product_bound bound [] = Ok bound
product_bound bound (part ∷ parts) = after (narrow (bound_after bound part.0 part.1.bound)) (λ next. product_bound next parts)

abbrev pub product_finding : Found → List (Op × Found) → Finding
product_finding first parts =
    if may_be_wide first.shape && list_all (λ part. takes part.0 part.1) parts then after (product_bound first.bound parts) (λ bound. Ok (wide bound))
    else Err Mismatch

-- a part of a day, which isn't above the bound
abbrev pub day_part : ℕ → Shape → Finding
day_part bound shape.OtherText = Err BadDate
day_part bound shape = if may_be_day shape then Ok (wide bound) else Err Mismatch

abbrev pub absolute : Found → Finding
absolute part = if may_be_wide part.shape then Ok (wide part.bound) else Err Mismatch

abbrev pub call_finding : Func → Found → Finding
call_finding func.Abs part = absolute part
call_finding func.Year part = day_part 9999 part.shape
call_finding func.Month part = day_part 12 part.shape
call_finding func.DayOfMonth part = day_part 31 part.shape
call_finding func.DayOfYear part = day_part 366 part.shape
call_finding func.DayOfWeek part = day_part 7 part.shape
call_finding func.Weekday part = day_part 6 part.shape
call_finding func.Quarter part = day_part 4 part.shape
call_finding func.ToDays part = day_part 3_652_424 part.shape

-- ---- all nodes

-- the operator beside what is found of its part
abbrev pub beside : Op → Finding → Result (Op × Found) CheckFault
beside op part = after part (λ found. Ok (op, found))

-- a node, from what its parts are found to be
abbrev pub finding_step : List Column → Expr-F Finding → Finding
finding_step columns (Expr-F.Number n) = number_finding n
finding_step columns (Expr-F.Text bytes) = Ok (other (text_shape (day_of bytes)))
finding_step columns (Expr-F.Hex bytes) = Ok (other shape.Bytes)
finding_step columns (Expr-F.Date day) = date_finding day
finding_step columns Expr-F.Null = Ok (other shape.Null)
finding_step columns (Expr-F.Column name) = column_finding name (column_named name columns)
finding_step columns (Expr-F.Neg part) = after part negation
finding_step columns (Expr-F.Sum parts) = after (all_found (map (λ part. part.1) parts)) sum_finding
finding_step columns (Expr-F.Product first parts) =
    after first (λ found. after (all_found (map (λ part. beside part.0 part.1) parts)) (product_finding found))
finding_step columns (Expr-F.Call func part) = after part (call_finding func)

-- what an expression over these columns is found to be
abbrev pub finding : List Column → Expr → Finding
finding columns = fold-Expr Finding (finding_step columns)

-- ---- a whole expression

abbrev pub kind_of : Shape → ExprKind
kind_of shape.Null = expr.Any
kind_of shape.Number = expr.Wide
kind_of shape.Signed = expr.Wide
kind_of shape.Wide = expr.Wide
kind_of shape.Day = expr.Day
kind_of shape.DayText = expr.Bytes
kind_of shape.OtherText = expr.Bytes
kind_of shape.Bytes = expr.Bytes

-- where a date is wanted, a text that is the whole expression stands for one
abbrev pub kind_finding : Bool → Shape → Result ExprKind CheckFault
kind_finding true shape.DayText = Ok expr.Day
kind_finding true shape.OtherText = Err BadDate
kind_finding date shape = Ok (kind_of shape)

-- the kind of an expression, or its first fault
abbrev pub checked : List Column → Expr → Bool → Result ExprKind CheckFault
checked columns expr date = after (finding columns expr) (λ found. kind_finding date found.shape)
