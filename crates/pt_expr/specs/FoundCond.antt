-- The first fault of a condition, from left to right.
use Rattle.std.specs.Prelude.{Bool, true, false, ◌&&◌, ◌||◌, if◌then◌else◌, List, [], ◌∷◌, map, Result, Ok, Err}
use Rattle.std.specs.List.{list_all, list_any}
use Rattle.pt_ast.specs.declared.table.Column.{Column}
use Rattle.pt_ast.specs.declared.tree.Expr.{Expr}
use Rattle.pt_ast.specs.declared.tree.Cond.{Cond, fold-Cond}
use Rattle.pt_ast.specs.declared.tree.Cond.TheOpen.{Cond-F}
use Rattle.pt_expr.specs.declared.kind.CheckFault.{CheckFault}
use Rattle.pt_expr.specs.declared.kind.CheckFault.TheVariants.{Mismatch, BadDate}
use Rattle.pt_expr.specs.declared.found.Shape.{Shape}
use Rattle.pt_expr.specs.declared.found.Shape.TheVariants as shape
use Rattle.pt_expr.specs.Found.{after, all_found, finding, may_be_wide, may_be_day, may_be_bytes}

-- nothing, or the first fault
abbrev pub Verdict : Type 0
Verdict = Result (Unit {0}) CheckFault

abbrev pub is_day : Shape → Bool
is_day shape.Day = true
is_day _ = false

abbrev pub is_other_text : Shape → Bool
is_other_text shape.OtherText = true
is_other_text _ = false

-- all of one kind
abbrev pub are_alike : List Shape → Bool
are_alike operands = list_all may_be_wide operands || list_all may_be_day operands || list_all may_be_bytes operands

-- where one is a date, each text among them has to spell one
abbrev pub among_verdict : List Shape → Verdict
among_verdict operands =
    if list_any is_day operands && list_any is_other_text operands then Err BadDate
    else (if are_alike operands then Ok tt else Err Mismatch)

-- operands that are compared with one another
abbrev pub alike_verdict : List Column → List Expr → Verdict
alike_verdict columns exprs = after (all_found (map (finding columns) exprs)) (λ operands. among_verdict (map (λ operand. operand.shape) operands))

abbrev pub all_verdict : List Verdict → Verdict
all_verdict parts = after (all_found parts) (λ all. Ok tt)

-- a node, from the verdicts on its parts
abbrev pub verdict_step : List Column → Cond-F Verdict → Verdict
verdict_step columns (Cond-F.Or parts) = all_verdict parts
verdict_step columns (Cond-F.And parts) = all_verdict parts
verdict_step columns (Cond-F.Not part) = part
verdict_step columns (Cond-F.Compare cmp left right) = alike_verdict columns (left ∷ right ∷ [])
verdict_step columns (Cond-F.IsNull is_not expr) = after (finding columns expr) (λ found. Ok tt)
verdict_step columns (Cond-F.In is_not expr list) = alike_verdict columns (expr ∷ list)
verdict_step columns (Cond-F.Between is_not expr low high) = alike_verdict columns (expr ∷ low ∷ high ∷ [])

-- whether a condition over these columns is well typed, or its first fault
abbrev pub checked_cond : List Column → Cond → Verdict
checked_cond columns = fold-Cond Verdict (verdict_step columns)
