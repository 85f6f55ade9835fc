-- For the code that makes cells: what it answers, and what a value has that passed its checks.
use Rattle.std.specs.Prelude.{◌≡◌, ℕ, ◌<◌, List, [], slice_index_or, Result, Ok, Err, IsOk}
use Rattle.pt_value.specs.Fits.{Fits}
use Rattle.pt_value.specs.declared.value.Kind.{Kind}
use Rattle.pt_ast.specs.declared.tree.Expr.{Expr}
use Rattle.pt_ast.specs.declared.table.Column.{Column}
use Rattle.pt_ast.specs.declared.statement.ValueSpec.{ValueSpec}
use Rattle.pt_ast.specs.declared.statement.ValueSpec.TheVariants as value
use Rattle.pt_ast.specs.declared.refusal.Refusal.{Refusal}
use Rattle.pt_expr.specs.Found.{checked}
use Rattle.pt_place.specs.Fitting.{kind_at}
use Rattle.pt_checks.specs.declared.faults.CellsFault.{CellsFault}
use Rattle.pt_checks.specs.declared.faults.CellsFault.TheVariants as fault
use Rattle.pt_checks.specs.Cells.{is_date, value_for}

-- A call answers what it is to come to, or that refusal, or want of memory.
abbrev pub Gives : {A : Type 0} → Result A Refusal → Result A CellsFault → Type 0
Gives worth (Ok x) = worth ≡ Ok x
Gives worth (Err (fault.Refused refusal)) = worth ≡ Err refusal
Gives worth (Err fault.NoMemory) = Unit {0}

-- well typed, and with a value that a column of this kind has room for
abbrev pub IsFor : Kind → Expr → Type 0
IsFor k expr = IsOk (checked [] expr (is_date k)) × Fits k (value_for [] [] k expr)

-- a value for the column at a position that has passed the checks
abbrev pub IsGiven : List Column → ℕ → ValueSpec → Type 0
IsGiven columns at value.Default = Unit {0}
IsGiven columns at (value.Value expr) = IsFor (kind_at columns at) expr

-- so have the first values of a row
abbrev pub AreGiven : List Column → List ℕ → List ValueSpec → ℕ → Type 0
AreGiven columns targets specs count = (k : ℕ) (d : ValueSpec) → k < count → IsGiven columns (slice_index_or targets k 0) (slice_index_or specs k d)
