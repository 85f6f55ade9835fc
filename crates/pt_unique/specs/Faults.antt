-- Why a row isn't entered.
use Rattle.std.specs.Prelude.{ℕ, List}
use Rattle.pt_value.specs.declared.value.Value.{Value}
use Rattle.pt_unique.specs.declared.fault.KeyFault.{KeyFault}
use Rattle.pt_unique.specs.declared.fault.KeyFault.TheVariants.{Taken, NoMemory}
use Rattle.pt_unique.specs.Book.{Book, IsTaken}

-- the serial that is told is that of the first row that agrees; memory may want at any time
abbrev pub IsFaultOf : Book → List (ℕ × List Value) → KeyFault → Type 0
IsFaultOf book mine (Taken serial) = IsTaken book mine serial
IsFaultOf book mine NoMemory = Unit {0}
