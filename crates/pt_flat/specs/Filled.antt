-- What the code's calls that insert rows leave, against the model's.
use Rattle.std.specs.Prelude.{◌≡◌, Result, Ok, Err}
use Rattle.pt_ast.specs.declared.refusal.Refusal.{Refusal}
use Rattle.pt_checks.specs.declared.faults.CellsFault.{CellsFault}
use Rattle.pt_checks.specs.declared.faults.CellsFault.TheVariants as fault
use Rattle.pt_flat.specs.declared.filling.Filling.{Filling}

-- A call leaves the filling that the model says, or fails with its refusal, or for want of memory.
abbrev pub Fills : Result Filling Refusal → Filling → Result (Unit {0}) CellsFault → Type 0
Fills model later (Ok done) = model ≡ Ok later
Fills model later (Err (fault.Refused refusal)) = model ≡ Err refusal
Fills model later (Err fault.NoMemory) = Unit {0}
