-- What a process says of how it ended: its status, and its line on standard error.
use Rattle.std.specs.Prelude.{ℕ, List, [], ◌++◌, codes}
use Rattle.std.specs.Fmt.{decimal}
use Rattle.pt_engine.specs.declared.ending.Ending.{Ending}
use Rattle.pt_engine.specs.declared.ending.Ending.TheVariants.{Done, Usage, DiskFault, NoMemory, Damaged, InputFault, OutputFault, TooLong}
use Rattle.pt_store.specs.declared.stop.Stop.{Stop}
use Rattle.pt_store.specs.declared.stop.Stop.TheVariants as stop

abbrev pub code_of : Ending → ℕ
code_of Done = 0
code_of Usage = 2
code_of DiskFault = 3
code_of NoMemory = 4
code_of (Damaged name place) = 5
code_of InputFault = 6
code_of OutputFault = 7
code_of TooLong = 8

-- `damaged NAME PLACE`
abbrev pub damaged_line : List ℕ → ℕ → List ℕ
damaged_line name place = codes "damaged " ++ name ++ codes " " ++ decimal place

abbrev pub line_of : Ending → List ℕ
line_of Done = []
line_of Usage = codes "usage: run DIR"
line_of DiskFault = codes "disk fault"
line_of NoMemory = codes "no memory"
line_of (Damaged name place) = damaged_line name place
line_of InputFault = codes "input fault"
line_of OutputFault = codes "output fault"
line_of TooLong = codes "too long"

-- the ending that a stop of the store leads to
abbrev pub ending_of : Stop → Ending
ending_of stop.NoMemory = NoMemory
ending_of stop.Fault = DiskFault
ending_of (stop.Bad name place) = Damaged name place

-- what holds where damage is the ending
abbrev pub IfDamaged : Ending → (List ℕ → ℕ → Type 0) → Type 0
IfDamaged (Damaged name place) P = P name place
IfDamaged Done P = Unit {0}
IfDamaged TooLong P = Unit {0}
IfDamaged InputFault P = Unit {0}
IfDamaged OutputFault P = Unit {0}
IfDamaged NoMemory P = Unit {0}
IfDamaged DiskFault P = Unit {0}
IfDamaged Usage P = Unit {0}
