-- In the shape of the code: sums, products and operands part by part. Nothing public cites these.
use Rattle.std.specs.Prelude.{ℕ, ◌+◌, ◌^◌, Bool, true, false, ◌&&◌, ◌||◌, nat_lt, if◌then◌else◌, List, [], ◌∷◌, Option, Some, None, Result, Ok, Err}
use Rattle.pt_value.specs.declared.truth.Truth.{Truth}
use Rattle.pt_value.specs.declared.truth.Truth.TheVariants.{False, Unknown, True}
use Rattle.pt_value.specs.declared.value.Kind.{Kind}
use Rattle.pt_value.specs.declared.value.Kind.TheVariants as kind
use Rattle.pt_value.specs.declared.value.Value.{Value}
use Rattle.pt_ast.specs.declared.table.Column.{Column}
use Rattle.pt_ast.specs.declared.tree.Op.{Op}
use Rattle.pt_ast.specs.declared.tree.Expr.{Expr}
use Rattle.pt_ast.specs.declared.tree.Expr.TheOpen.{Expr-F}
use Rattle.pt_expr.specs.declared.kind.CheckFault.{CheckFault}
use Rattle.pt_expr.specs.declared.kind.CheckFault.TheVariants.{Mismatch, TooWide, BadDate}
use Rattle.pt_expr.specs.declared.found.Shape.{Shape}
use Rattle.pt_expr.specs.declared.found.Found.{Found}
use Rattle.pt_expr.specs.declared.running.Running.{Running}
use Rattle.pt_expr.specs.declared.operands.Operands.{Operands}
use Rattle.pt_expr.specs.Columns.{column_named}
use Rattle.pt_expr.specs.Truths.{equals, is_null}
use Rattle.pt_expr.specs.Found.{Finding, after, bound_after, finding, may_be_wide, may_be_day, may_be_bytes, takes, wide}
use Rattle.pt_expr.specs.FoundCond.{Verdict, is_day, is_other_text}

-- a bound below 2^126
abbrev pub narrowed : ℕ → Option ℕ
narrowed bound = if nat_lt bound (2 ^ 126) then Some bound else None

abbrev pub plus_bound : Option ℕ → ℕ → Option ℕ
plus_bound (Some bound) part = narrowed (bound + part)
plus_bound None part = None

abbrev pub times_bound : Option ℕ → Op → ℕ → Option ℕ
times_bound (Some bound) op part = narrowed (bound_after bound op part)
times_bound None op part = None

abbrev pub begun : Found → Running
begun first = record { matches = may_be_wide first.shape; bound = Some first.bound }

abbrev pub plus_part : Running → Found → Running
plus_part run part = record { matches = run.matches && may_be_wide part.shape; bound = plus_bound run.bound part.bound }

abbrev pub times_part : Running → Op → Found → Running
times_part run op part = record { matches = run.matches && takes op part; bound = times_bound run.bound op part.bound }

abbrev pub wide_or_fault : Option ℕ → Finding
wide_or_fault (Some bound) = Ok (wide bound)
wide_or_fault None = Err TooWide

abbrev pub ended : Running → Finding
ended run = if run.matches then wide_or_fault run.bound else Err Mismatch

-- what comes of a sum with these parts still to come
unfoldable pub sum_rest : List Column → Running → List (Bool × Expr) → Finding
sum_rest columns run [] = ended run
sum_rest columns run (part ∷ parts) = after (finding columns part.1) (λ found. sum_rest columns (plus_part run found) parts)

unfoldable pub product_rest : List Column → Running → List (Op × Expr) → Finding
product_rest columns run [] = ended run
product_rest columns run (part ∷ parts) = after (finding columns part.1) (λ found. product_rest columns (times_part run part.0 found) parts)

-- ---- operands that are compared

abbrev pub no_operands : Operands
no_operands = record { is_date = false; is_bad = false; wide = true; day = true; bytes = true }

abbrev pub with_operand : Operands → Shape → Operands
with_operand operands shape = record {
  is_date = operands.is_date || is_day shape;
  is_bad = operands.is_bad || is_other_text shape;
  wide = operands.wide && may_be_wide shape;
  day = operands.day && may_be_day shape;
  bytes = operands.bytes && may_be_bytes shape;
}

abbrev pub compared_verdict : Operands → Verdict
compared_verdict operands =
    if operands.is_date && operands.is_bad then Err BadDate
    else (if operands.wide || operands.day || operands.bytes then Ok tt else Err Mismatch)

abbrev pub operands_after : List Column → Operands → Expr → Result Operands CheckFault
operands_after columns operands expr = after (finding columns expr) (λ found. Ok (with_operand operands found.shape))

-- what comes of operands with these still to come
unfoldable pub operands_rest : List Column → Operands → List Expr → Verdict
operands_rest columns operands [] = compared_verdict operands
operands_rest columns operands (expr ∷ exprs) = after (operands_after columns operands expr) (λ next. operands_rest columns next exprs)

-- ---- truth

abbrev pub is_day_kind : Kind → Bool
is_day_kind kind.Date = true
is_day_kind _ = false

abbrev pub is_day_column : Option Column → Bool
is_day_column (Some column) = is_day_kind column.kind
is_day_column None = false

-- a node that is a date wherever it is well typed
abbrev pub names_date : List Column → Expr-F Expr → Bool
names_date columns (Expr-F.Date day) = true
names_date columns (Expr-F.Column name) = is_day_column (column_named name columns)
names_date columns _ = false

-- what comes of IN with these items still to come, true where a NULL was met
abbrev pub among_rest : Value → Bool → List Value → Truth
among_rest x met [] = if met then Unknown else False
among_rest x met (item ∷ items) = if equals x item then True else among_rest x (met || is_null item) items
