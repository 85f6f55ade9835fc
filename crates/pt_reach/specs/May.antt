-- At which values of a column a condition may hold. MySQL 5.7 manual, section 22.4, "Partition Pruning": a comparison of a partitioning
-- column with a constant, IN and BETWEEN tell which partitions can have rows that match.
use Rattle.std.specs.Prelude.{ℕ, zero, suc, Bool, true, false, not, ◌&&◌, ◌||◌, ◌==◌, List, [], ◌∷◌, Option, Some, None}
use Rattle.std.specs.List.{list_all, list_any}
use Rattle.pt_value.specs.declared.truth.Truth.{Truth}
use Rattle.pt_value.specs.declared.truth.Truth.TheVariants.{True}
use Rattle.pt_value.specs.declared.value.Value.{Value}
use Rattle.pt_value.specs.declared.value.Value.TheVariants.{Null}
use Rattle.pt_ast.specs.declared.table.Column.{Column}
use Rattle.pt_ast.specs.declared.tree.Expr.{Expr}
use Rattle.pt_ast.specs.declared.tree.Expr.TheViews.{out-Expr}
use Rattle.pt_ast.specs.declared.tree.Expr.TheOpen.{Expr-F}
use Rattle.pt_ast.specs.declared.tree.Cond.{Cond, fold-Cond}
use Rattle.pt_ast.specs.declared.tree.Cond.TheOpen.{Cond-F}
use Rattle.pt_expr.specs.Truths.{among_truth, between_truth, compare_truth, is_null, negated, truth_of}
use Rattle.pt_expr.specs.Values.{value}
use Rattle.pt_place.specs.Checks.{is_some_name}
use Rattle.pt_place.specs.Names.{column_of, names_in}

-- ---- operands

-- no column is named
abbrev pub is_constant : Expr → Bool
is_constant expr = not (is_some_name (names_in expr))

abbrev pub is_at : ℕ → Option ℕ → Bool
is_at c (Some place) = place == c
is_at c None = false

abbrev pub is_column_node : List Column → ℕ → Expr-F Expr → Bool
is_column_node columns c (Expr-F.Column name) = is_at c (column_of columns name)
is_column_node columns c _ = false

-- the column at position c itself
abbrev pub is_column : List Column → ℕ → Expr → Bool
is_column columns c expr = is_column_node columns c (out-Expr expr)

-- ---- atoms: tests of the column itself against constants

-- the first operand is the column itself, and the other an expression without columns
abbrev pub is_own : List Column → ℕ → Expr → Expr → Bool
is_own columns c own other = is_column columns c own && is_constant other

abbrev pub is_comparison : List Column → ℕ → Expr → Expr → Bool
is_comparison columns c left right = is_own columns c left right || is_own columns c right left

abbrev pub is_in_constants : List Column → ℕ → Expr → List Expr → Bool
is_in_constants columns c expr list = is_column columns c expr && list_all is_constant list

abbrev pub is_between_constants : List Column → ℕ → Expr → Expr → Expr → Bool
is_between_constants columns c expr low high = is_column columns c expr && (is_constant low && is_constant high)

-- the row whose column at position c has this value. The others are NULL: those behind c have no cell, which is read as NULL
abbrev pub row_at : ℕ → Value → List Value
row_at zero v = v ∷ []
row_at (suc c) v = Null ∷ row_at c v

-- ---- conditions

abbrev pub is_true : Truth → Bool
is_true True = true
is_true _ = false

-- an atom may hold where it is TRUE, and whatever else everywhere
abbrev pub if_atom : Bool → Truth → Bool
if_atom true truth = is_true truth
if_atom false truth = true

-- a node, from whether its parts may hold
abbrev pub may_step : List Column → ℕ → Value → Cond-F Bool → Bool
may_step columns c v (Cond-F.Or parts) = list_any (λ part. part) parts
may_step columns c v (Cond-F.And parts) = list_all (λ part. part) parts
may_step columns c v (Cond-F.Not part) = true
may_step columns c v (Cond-F.Compare cmp left right) = if_atom (is_comparison columns c left right) (compare_truth columns (row_at c v) cmp left right)
may_step columns c v (Cond-F.IsNull is_not expr) = if_atom (is_column columns c expr) (negated is_not (truth_of (is_null (value columns (row_at c v) expr))))
may_step columns c v (Cond-F.In is_not expr list) = if_atom (is_in_constants columns c expr list) (negated is_not (among_truth columns (row_at c v) expr list))
may_step columns c v (Cond-F.Between is_not expr low high) =
    if_atom (is_between_constants columns c expr low high) (negated is_not (between_truth columns (row_at c v) expr low high))

-- whether a condition may hold where the column at position c has this value
abbrev pub may : List Column → ℕ → Value → Cond → Bool
may columns c v = fold-Cond Bool (may_step columns c v)

-- no condition holds everywhere
abbrev pub may_hold : List Column → ℕ → Option Cond → Value → Bool
may_hold columns c (Some cond) v = may columns c v cond
may_hold columns c None v = true
