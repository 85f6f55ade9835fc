-- What a condition is of the cells of a row.
use Rattle.std.specs.Prelude.{Bool, true, false, not, ◌&&◌, ◌||◌, if◌then◌else◌, List, [], ◌∷◌, map, fold, Ok, Err}
use Rattle.std.specs.List.{list_any}
use Rattle.std.specs.declared.cmp.Ordering.{Ordering}
use Rattle.std.specs.Ordering.{is_eq, is_ne, is_lt, is_le, is_gt, is_ge}
use Rattle.pt_value.specs.Truth.{least, greatest, turned}
use Rattle.pt_value.specs.declared.truth.Truth.{Truth}
use Rattle.pt_value.specs.declared.truth.Truth.TheVariants.{False, Unknown, True}
use Rattle.pt_value.specs.Value.{value_cmp}
use Rattle.pt_value.specs.declared.value.Value.{Value}
use Rattle.pt_value.specs.declared.value.Value.TheVariants as value
use Rattle.pt_ast.specs.declared.table.Column.{Column}
use Rattle.pt_ast.specs.declared.tree.Cmp.{Cmp}
use Rattle.pt_ast.specs.declared.tree.Cmp.TheVariants as cmp
use Rattle.pt_ast.specs.declared.tree.Expr.{Expr}
use Rattle.pt_ast.specs.declared.tree.Cond.{Cond, fold-Cond}
use Rattle.pt_ast.specs.declared.tree.Cond.TheOpen.{Cond-F}
use Rattle.pt_expr.specs.Found.{Finding, finding}
use Rattle.pt_expr.specs.FoundCond.{is_day}
use Rattle.pt_expr.specs.Values.{as_day, value}

-- ---- operands

abbrev pub is_date : Finding → Bool
is_date (Ok found) = is_day found.shape
is_date (Err fault) = false

-- whether one of them is a date
abbrev pub are_dates : List Column → List Expr → Bool
are_dates columns exprs = list_any (λ expr. is_date (finding columns expr)) exprs

-- the value of an operand, as a date where it is compared with one
abbrev pub operand : List Column → List Value → Bool → Expr → Value
operand columns cells true expr = as_day (value columns cells expr)
operand columns cells false expr = value columns cells expr

-- ---- tests

abbrev pub truth_of : Bool → Truth
truth_of true = True
truth_of false = False

-- the form with NOT is NOT of the other
abbrev pub negated : Bool → Truth → Truth
negated true truth = turned truth
negated false truth = truth

abbrev pub is_null : Value → Bool
is_null value.Null = true
is_null _ = false

-- whether a comparison holds of things in this order
abbrev pub holds : Cmp → Ordering → Bool
holds cmp.Eq order = is_eq order
holds cmp.Ne order = is_ne order
holds cmp.Lt order = is_lt order
holds cmp.Le order = is_le order
holds cmp.Gt order = is_gt order
holds cmp.Ge order = is_ge order

-- a comparison with NULL is UNKNOWN
abbrev pub compared : Cmp → Value → Value → Truth
compared cmp left right = if is_null left || is_null right then Unknown else truth_of (holds cmp (value_cmp left right))

-- neither is NULL, and they are equal
abbrev pub equals : Value → Value → Bool
equals x item = not (is_null x) && not (is_null item) && is_eq (value_cmp x item)

-- TRUE where an item equals x, else UNKNOWN where x or an item is NULL, else FALSE
abbrev pub among : Value → List Value → Truth
among x items =
    if list_any (equals x) items then True
    else (if is_null x || list_any is_null items then Unknown else False)

abbrev pub between : Value → Value → Value → Truth
between x low high = least (compared cmp.Ge x low) (compared cmp.Le x high)

-- ---- all nodes

abbrev pub compare_truth : List Column → List Value → Cmp → Expr → Expr → Truth
compare_truth columns cells cmp left right =
    let dates = are_dates columns (left ∷ right ∷ []) in
    compared cmp (operand columns cells dates left) (operand columns cells dates right)

abbrev pub among_truth : List Column → List Value → Expr → List Expr → Truth
among_truth columns cells expr list =
    let dates = are_dates columns (expr ∷ list) in
    among (operand columns cells dates expr) (map (operand columns cells dates) list)

abbrev pub between_truth : List Column → List Value → Expr → Expr → Expr → Truth
between_truth columns cells expr low high =
    let dates = are_dates columns (expr ∷ low ∷ high ∷ []) in
    between (operand columns cells dates expr) (operand columns cells dates low) (operand columns cells dates high)

-- a node, from the truth of its parts
abbrev pub truth_step : List Column → List Value → Cond-F Truth → Truth
truth_step columns cells (Cond-F.Or parts) = fold greatest False parts
truth_step columns cells (Cond-F.And parts) = fold least True parts
truth_step columns cells (Cond-F.Not part) = turned part
truth_step columns cells (Cond-F.Compare cmp left right) = compare_truth columns cells cmp left right
truth_step columns cells (Cond-F.IsNull is_not expr) = negated is_not (truth_of (is_null (value columns cells expr)))
truth_step columns cells (Cond-F.In is_not expr list) = negated is_not (among_truth columns cells expr list)
truth_step columns cells (Cond-F.Between is_not expr low high) = negated is_not (between_truth columns cells expr low high)

-- what a condition is of these cells
abbrev pub truth : List Column → List Value → Cond → Truth
truth columns cells = fold-Cond Truth (truth_step columns cells)
