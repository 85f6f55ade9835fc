-- The assignments of UPDATE. MySQL 5.7 manual, section 13.2.11, "UPDATE Syntax": they are evaluated from left to right, and each sees the
-- values that those before it have given.
use Rattle.std.specs.Prelude.{◌≡◌, ℕ, ◌<◌, Bool, true, false, not, ◌&&◌, All, List, [], ◌∷◌, map, length, fold, slice_index_or, slice_set, unwrap_or, Option, None, Result, Ok, Err}
use Rattle.std.specs.List.{list_any}
use Rattle.std.specs.Ordering.{eq_by_cmp}
use Rattle.std.specs.Cmp.Lexicographic.{pointwise}
use Rattle.pt_value.specs.Value.{value_cmp}
use Rattle.pt_value.specs.declared.value.Value.{Value}
use Rattle.pt_value.specs.declared.value.Value.TheVariants as cell
use Rattle.pt_value.specs.declared.value.Kind.{Kind}
use Rattle.pt_ast.specs.declared.table.Column.{Column}
use Rattle.pt_ast.specs.declared.table.TableDef.{TableDef}
use Rattle.pt_ast.specs.declared.statement.ValueSpec.{ValueSpec}
use Rattle.pt_ast.specs.declared.statement.ValueSpec.TheVariants as value
use Rattle.pt_ast.specs.declared.statement.Tail.{Tail}
use Rattle.pt_ast.specs.declared.refusal.Arg.TheVariants as arg
use Rattle.pt_ast.specs.declared.refusal.Refusal.{Refusal}
use Rattle.pt_ast.specs.declared.refusal.Refusal.TheVariants as refusal
use Rattle.pt_expr.specs.declared.kind.ExprKind.{ExprKind}
use Rattle.pt_expr.specs.declared.kind.CheckFault.{CheckFault}
use Rattle.pt_expr.specs.Found.{checked}
use Rattle.pt_place.specs.First.{first_in, first_of, refused_if}
use Rattle.pt_place.specs.Fitting.{is_in_range, kind_at}
use Rattle.pt_place.specs.Checks.{is_null}
use Rattle.pt_place.specs.Names.{column_of}
use Rattle.pt_checks.specs.Cells.{bad_kind, default_of, has_kind, is_date, unless, value_for}
use Rattle.pt_checks.specs.Named.{no_column}
use Rattle.pt_checks.specs.Queries.{bad_tail}

-- ---- what is refused by looking at the statement and the definition alone

-- the position of the column of this name; one that isn't there is refused before this is asked
abbrev pub target_of : List Column → List ℕ → ℕ
target_of columns name = unwrap_or (column_of columns name) 0

-- the column that is set isn't there
abbrev pub bad_target : List Column → List ℕ × ValueSpec → Option Refusal
bad_target columns assign = no_column columns assign.0

-- A value that is assigned has its first fault, or it is of another kind than its column. It may name the columns of the table. DEFAULT has
-- none of these.
abbrev pub bad_source : List ℕ → List Column → ℕ → ValueSpec → Option Refusal
bad_source table columns at value.Default = None
bad_source table columns at (value.Value expr) = bad_kind (arg.Name table) (kind_at columns at) (checked columns expr (is_date (kind_at columns at)))

-- the same for an assignment
abbrev pub bad_assign : List ℕ → List Column → List ℕ × ValueSpec → Option Refusal
bad_assign table columns assign = bad_source table columns (target_of columns assign.0) assign.1

-- first all columns that are set, then the values
abbrev pub bad_assigns : List ℕ → List Column → List (List ℕ × ValueSpec) → Option Refusal
bad_assigns table columns assigns = first_of (
    first_in (bad_target columns) assigns
    ∷ first_in (bad_assign table columns) assigns
    ∷ [])

-- the assignments, then WHERE, then ORDER BY
abbrev pub bad_update : TableDef → List ℕ → List (List ℕ × ValueSpec) → Tail → Option Refusal
bad_update def table assigns tail = first_of (
    bad_assigns table def.columns assigns
    ∷ bad_tail def table tail
    ∷ [])

-- ---- the values that a row is given

-- the default of the column at a position, NULL where there is none
abbrev pub default_at : List Column → ℕ → Value
default_at columns at = slice_index_or (map default_of columns) at cell.Null

-- the value for the column at a position, over the cells as they are then
abbrev pub source_value : List Column → List Value → ℕ → ValueSpec → Value
source_value columns cells at value.Default = default_at columns at
source_value columns cells at (value.Value expr) = value_for columns cells (kind_at columns at) expr

-- The values that assignments give, each with the position of its column: from left to right, each over the cells with those before it.
abbrev pub assigned_values : List Column → List Value → List (List ℕ × ValueSpec) → List (ℕ × Value)
assigned_values columns cells [] = []
assigned_values columns cells (assign ∷ assigns) =
    let at = target_of columns assign.0 in
    let own = source_value columns cells at assign.1 in
    (at, own) ∷ assigned_values columns (slice_set cells at own) assigns

-- the positions of the columns that are set
abbrev pub set_targets : List Column → List (List ℕ × ValueSpec) → List ℕ
set_targets columns assigns = map (λ assign. target_of columns assign.0) assigns

-- the cells with these values in the places of their columns; of two for one column the later one stays
abbrev pub with_values : List Value → List (ℕ × Value) → List Value
with_values cells values = fold (λ before own. slice_set before own.0 own.1) cells values

-- ---- what is refused of them

-- the column at a position is NOT NULL
abbrev pub not_null_at : List Column → ℕ → Bool
not_null_at columns at = slice_index_or (map (λ column. column.not_null) columns) at false

-- its column has no room for the value
abbrev pub lacks_room : List Column → ℕ × Value → Bool
lacks_room columns own = not (is_in_range (kind_at columns own.0) own.1)

-- the value is NULL, and its column NOT NULL
abbrev pub is_wrong_null : List Column → ℕ × Value → Bool
is_wrong_null columns own = not_null_at columns own.0 && is_null own.1

-- Of all values of a row first 16 and then 17. Each counts, also where a later assignment sets the same column again.
abbrev pub bad_assigned : List Column → ℕ → List (ℕ × Value) → Option Refusal
bad_assigned columns number values = first_of (
    refused_if (list_any (lacks_room columns) values) (refusal.OutOfRange (arg.Number number))
    ∷ refused_if (list_any (is_wrong_null columns) values) (refusal.NullNotAllowed number)
    ∷ [])

-- The cells of the row of this number, from 1, once the assignments are made; or why it is refused.
abbrev pub updated_cells : TableDef → List (List ℕ × ValueSpec) → ℕ → List Value → Result (List Value) Refusal
updated_cells def assigns number cells =
    let values = assigned_values def.columns cells assigns in
    unless (bad_assigned def.columns number values) (with_values cells values)

-- each value is as it was; NULL is the same as NULL
abbrev pub are_same : List Value → List Value → Bool
are_same = pointwise (eq_by_cmp value_cmp)

-- ---- what they rest on: what passes the checks is well typed

-- an expression of a kind that the column takes
abbrev pub IsTakenBy : Kind → Result ExprKind CheckFault → Type 0
IsTakenBy k (Ok own) = has_kind k own ≡ true
IsTakenBy k (Err fault) = ⊥

-- a value for the column at a position
abbrev pub IsSource : List Column → ℕ → ValueSpec → Type 0
IsSource columns at value.Default = Unit {0}
IsSource columns at (value.Value expr) = IsTakenBy (kind_at columns at) (checked columns expr (is_date (kind_at columns at)))

-- the column is there, and takes the value
abbrev pub IsAssignable : List Column → List ℕ × ValueSpec → Type 0
IsAssignable columns assign = (target_of columns assign.0 < length columns) × IsSource columns (target_of columns assign.0) assign.1

abbrev pub AreAssignable : List Column → List (List ℕ × ValueSpec) → Type 0
AreAssignable columns assigns = All (IsAssignable columns) assigns
