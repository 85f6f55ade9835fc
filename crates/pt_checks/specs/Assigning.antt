-- For the code that makes assignments: one after the other, over the cells as they are then.
use Rattle.std.specs.Prelude.{◌≡◌, ℕ, false, not, ◌||◌, List, [], ◌∷◌, slice_set, Result, Ok, Err, if◌then◌else◌}
use Rattle.pt_value.specs.declared.value.Value.{Value}
use Rattle.pt_value.specs.declared.value.Kind.{Kind}
use Rattle.pt_ast.specs.declared.table.Column.{Column}
use Rattle.pt_ast.specs.declared.statement.ValueSpec.{ValueSpec}
use Rattle.pt_ast.specs.declared.refusal.Arg.TheVariants as arg
use Rattle.pt_ast.specs.declared.refusal.Refusal.{Refusal}
use Rattle.pt_ast.specs.declared.refusal.Refusal.TheVariants as refusal
use Rattle.pt_place.specs.First.{refused_if}
use Rattle.pt_place.specs.Fitting.{is_in_range}
use Rattle.pt_checks.specs.Assigned.{is_wrong_null, lacks_room, source_value, target_of}
use Rattle.pt_checks.specs.Cells.{lacks_value, unless}
use Rattle.pt_checks.specs.declared.assigning.Assigning.{Assigning}

-- a value that a column of this kind has room for
abbrev pub roomy : Kind → ℕ → Value → Result Value Refusal
roomy k number own = unless (refused_if (not (is_in_range k own)) (refusal.OutOfRange (arg.Number number))) own

-- with this value in the column at a position
abbrev pub with_assigned : List Column → Assigning → ℕ → Value → Assigning
with_assigned columns now at own = record { cells = slice_set now.cells at own; wrong = now.wrong || is_wrong_null columns (at, own) }

-- one assignment
abbrev pub assign : List Column → ℕ → Assigning → ℕ → ValueSpec → Result Assigning Refusal
assign columns number now at spec =
    let own = source_value columns now.cells at spec in
    unless (refused_if (lacks_room columns (at, own)) (refusal.OutOfRange (arg.Number number))) (with_assigned columns now at own)

-- what comes next, where that isn't refused
abbrev pub followed : Result Assigning Refusal → (Assigning → Result Assigning Refusal) → Result Assigning Refusal
followed (Ok now) next = next now
followed (Err refusal) next = Err refusal

-- these assignments
abbrev pub assign_all : List Column → ℕ → Assigning → List (List ℕ × ValueSpec) → Result Assigning Refusal
assign_all columns number now [] = Ok now
assign_all columns number now (assignment ∷ rest) =
    followed (assign columns number now (target_of columns assignment.0) assignment.1) (λ later. assign_all columns number later rest)

-- the cells at the end; 17 where one of the values was NULL, and its column NOT NULL
abbrev pub finished : ℕ → Assigning → Result (List Value) Refusal
finished number now = if now.wrong then Err (refusal.NullNotAllowed number) else Ok now.cells

-- what holds of them: no NULL stands in a NOT NULL column where none was given
abbrev pub IsKept : List Column → Assigning → Type 0
IsKept columns now = now.wrong ≡ false → lacks_value columns now.cells ≡ false
