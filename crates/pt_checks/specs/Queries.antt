-- What is refused of the expressions, WHERE and ORDER BY of a statement. MySQL 5.7 manual, section 13.2.9, "SELECT Syntax", and section
-- 13.2.2, "DELETE Syntax".
use Rattle.std.specs.Prelude.{ℕ, Bool, false, All, List, [], ◌∷◌, Option, Some, None, IfSome, IsOk}
use Rattle.pt_ast.specs.declared.tree.Expr.{Expr}
use Rattle.pt_ast.specs.declared.tree.Cond.{Cond}
use Rattle.pt_ast.specs.declared.table.Column.{Column}
use Rattle.pt_ast.specs.declared.table.TableDef.{TableDef}
use Rattle.pt_ast.specs.declared.statement.Tail.{Tail}
use Rattle.pt_ast.specs.declared.statement.Query.{Query}
use Rattle.pt_ast.specs.declared.refusal.Arg.TheVariants as arg
use Rattle.pt_ast.specs.declared.refusal.Refusal.{Refusal}
use Rattle.pt_expr.specs.Found.{checked}
use Rattle.pt_expr.specs.FoundCond.{checked_cond}
use Rattle.pt_place.specs.First.{first_of, first_in}
use Rattle.pt_checks.specs.Faults.{of_finding}
use Rattle.pt_checks.specs.Named.{no_column}

-- ---- the checks

-- an expression of any kind
abbrev pub bad_item : List ℕ → List Column → Expr → Option Refusal
bad_item table columns expr = of_finding (arg.Name table) (checked columns expr false)

-- `*` has no fault
abbrev pub bad_items : List ℕ → List Column → Option (List Expr) → Option Refusal
bad_items table columns (Some exprs) = first_in (bad_item table columns) exprs
bad_items table columns None = None

-- WHERE
abbrev pub bad_cond : List ℕ → List Column → Option Cond → Option Refusal
bad_cond table columns (Some cond) = of_finding (arg.Name table) (checked_cond columns cond)
bad_cond table columns None = None

-- a column of ORDER BY
abbrev pub bad_by : List Column → List ℕ × Bool → Option Refusal
bad_by columns by = no_column columns by.0

-- ORDER BY
abbrev pub bad_order : List Column → List (List ℕ × Bool) → Option Refusal
bad_order columns order = first_in (bad_by columns) order

-- WHERE, then ORDER BY
abbrev pub bad_tail : TableDef → List ℕ → Tail → Option Refusal
bad_tail def table tail = first_of (
    bad_cond table def.columns tail.cond
    ∷ bad_order def.columns tail.order
    ∷ [])

-- expressions, then WHERE, then ORDER BY
abbrev pub bad_query : TableDef → Query → Option Refusal
bad_query def query = first_of (
    bad_items query.table def.columns query.items
    ∷ bad_tail def query.table query.tail
    ∷ [])

-- ---- what they rest on: what passes them is well typed

abbrev pub AreChecked : List Column → List Expr → Type 0
AreChecked columns exprs = All (λ expr. IsOk (checked columns expr false)) exprs

abbrev pub IsCheckedCond : List Column → Option Cond → Type 0
IsCheckedCond columns cond = IfSome cond (λ own. IsOk (checked_cond columns own))

abbrev pub IsChecked : TableDef → Query → Type 0
IsChecked def query = IfSome query.items (AreChecked def.columns) × IsCheckedCond def.columns query.tail.cond
