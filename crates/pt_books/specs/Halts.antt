-- Why a statement isn't carried out.
use Rattle.std.specs.Prelude.{Result, Ok, Err}
use Rattle.pt_checks.specs.declared.faults.CellsFault.{CellsFault}
use Rattle.pt_checks.specs.declared.faults.CellsFault.TheVariants as fault
use Rattle.pt_store.specs.declared.stop.Stop.{Stop}
use Rattle.pt_store.specs.declared.stop.Stop.TheVariants.{NoMemory}
use Rattle.pt_books.specs.declared.halt.Halt.{Halt}
use Rattle.pt_books.specs.declared.halt.Halt.TheVariants as halt

-- what a row of VALUES that gives no cells halts by
abbrev pub of_fault : CellsFault → Halt
of_fault (fault.Refused refusal) = halt.Refused refusal
of_fault fault.NoMemory = halt.Stopped NoMemory

-- which stop an answer is: a refusal is none
abbrev pub stop_of : {T : Type 0} → Result T Halt → Result (Unit {0}) Stop
stop_of (Ok x) = Ok tt
stop_of (Err (halt.Refused refusal)) = Ok tt
stop_of (Err (halt.Stopped stop)) = Err stop
