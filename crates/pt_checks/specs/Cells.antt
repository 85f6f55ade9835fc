-- The cells of a row of VALUES. MySQL 5.7 manual, section 13.2.5, "INSERT Syntax", and section 11.7, "Data Type Default Values".
use Rattle.std.specs.Prelude.{ℕ, Bool, true, false, not, ◌&&◌, ◌||◌, ◌==◌, List, [], ◌∷◌, map, length, fold, zip, slice_set, unwrap_or, Option, Some, None, Result, Ok, Err}
use Rattle.pt_value.specs.declared.value.Value.{Value}
use Rattle.pt_value.specs.declared.value.Value.TheVariants as cell
use Rattle.pt_value.specs.declared.value.Kind.{Kind}
use Rattle.pt_value.specs.declared.value.Kind.TheVariants as kind
use Rattle.pt_ast.specs.declared.tree.Expr.{Expr}
use Rattle.pt_ast.specs.declared.table.Column.{Column}
use Rattle.pt_ast.specs.declared.table.TableDef.{TableDef}
use Rattle.pt_ast.specs.declared.statement.ValueSpec.{ValueSpec}
use Rattle.pt_ast.specs.declared.statement.ValueSpec.TheVariants as value
use Rattle.pt_ast.specs.declared.refusal.Arg.{Arg}
use Rattle.pt_ast.specs.declared.refusal.Arg.TheVariants as arg
use Rattle.pt_ast.specs.declared.refusal.Refusal.{Refusal}
use Rattle.pt_ast.specs.declared.refusal.Refusal.TheVariants as refusal
use Rattle.pt_expr.specs.declared.kind.ExprKind.{ExprKind}
use Rattle.pt_expr.specs.declared.kind.ExprKind.TheVariants as expr
use Rattle.pt_expr.specs.declared.kind.CheckFault.{CheckFault}
use Rattle.pt_expr.specs.Found.{checked}
use Rattle.pt_expr.specs.Values.{whole_value}
use Rattle.pt_place.specs.First.{refused_if, first_of, first_in}
use Rattle.pt_place.specs.Fitting.{is_in_range, kind_at}
use Rattle.pt_place.specs.Checks.{is_null}
use Rattle.pt_checks.specs.Faults.{of_fault}

-- ---- a value for a column

-- a text that is assigned to a date column stands for a date
abbrev pub is_date : Kind → Bool
is_date kind.Date = true
is_date _ = false

-- which kinds of expressions a column takes; NULL has every kind
abbrev pub has_kind : Kind → ExprKind → Bool
has_kind k expr.Any = true
has_kind kind.Int expr.Wide = true
has_kind kind.BigInt expr.Wide = true
has_kind kind.Date expr.Day = true
has_kind (kind.Binary most) expr.Bytes = true
has_kind _ _ = false

-- a fault is told before the kind is asked
abbrev pub bad_kind : Arg → Kind → Result ExprKind CheckFault → Option Refusal
bad_kind arg k (Err fault) = Some (of_fault arg fault)
bad_kind arg k (Ok own) = refused_if (not (has_kind k own)) (refusal.TypeMismatch arg)

-- what an expression over these columns comes to for a column of this kind
abbrev pub value_for : List Column → List Value → Kind → Expr → Value
value_for columns cells k expr = whole_value columns expr (is_date k) cells

-- An expression as a value of a row has its first fault, or it is of another kind than the column, or the column has no room for it. No
-- column is there to be named within VALUES.
abbrev pub bad_expr : ℕ → Kind → Expr → Option Refusal
bad_expr number k expr = first_of (
    bad_kind (arg.Number number) k (checked [] expr (is_date k))
    ∷ refused_if (not (is_in_range k (value_for [] [] k expr))) (refusal.OutOfRange (arg.Number number))
    ∷ [])

-- DEFAULT has none of these
abbrev pub bad_value : ℕ → Kind → ValueSpec → Option Refusal
bad_value number k value.Default = None
bad_value number k (value.Value expr) = bad_expr number k expr

-- the same for the column at a position
abbrev pub bad_given : List Column → ℕ → ℕ × ValueSpec → Option Refusal
bad_given columns number given = bad_value number (kind_at columns given.0) given.1

-- ---- a row

-- the default, NULL where there is none
abbrev pub default_of : Column → Value
default_of column = unwrap_or column.default cell.Null

-- the cells with a value for the column at a position; DEFAULT leaves the default
abbrev pub with_value : List Column → List Value → ℕ × ValueSpec → List Value
with_value columns cells (at, value.Default) = cells
with_value columns cells (at, value.Value expr) = slice_set cells at (value_for [] [] (kind_at columns at) expr)

-- the defaults of all columns, with each value in the place of its column
abbrev pub row_of : List Column → List (ℕ × ValueSpec) → List Value
row_of columns values = fold (with_value columns) (map default_of columns) values

-- a NOT NULL column has NULL
abbrev pub lacks_value : List Column → List Value → Bool
lacks_value (column ∷ columns) (own ∷ cells) = column.not_null && is_null own || lacks_value columns cells
lacks_value _ _ = false

-- what refuses a row that gives values to the columns at these positions: how many they are, then each value in its order, then NULL
abbrev pub bad_row : TableDef → List ℕ → ℕ → List ValueSpec → Option Refusal
bad_row def targets number specs =
    let values = zip targets specs in
    first_of (
    refused_if (not (length specs == length targets)) (refusal.WrongCount number)
    ∷ first_in (bad_given def.columns number) values
    ∷ refused_if (lacks_value def.columns (row_of def.columns values)) (refusal.NullNotAllowed number)
    ∷ [])

-- what there is where nothing refuses it
abbrev pub unless : {A : Type 0} → Option Refusal → A → Result A Refusal
unless (Some refusal) x = Err refusal
unless None x = Ok x

-- The cells of the row of this number, from 1, which gives values to the columns at these positions; or why it is refused.
abbrev pub cells_of : TableDef → List ℕ → ℕ → List ValueSpec → Result (List Value) Refusal
cells_of def targets number specs = unless (bad_row def targets number specs) (row_of def.columns (zip targets specs))
