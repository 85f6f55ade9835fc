-- Why a row file gives no rows.
use Rattle.std.specs.Prelude.{List, ℕ}
use Rattle.pt_rowfile.specs.declared.fault.RowFault.{RowFault}
use Rattle.pt_rowfile.specs.declared.fault.RowFault.TheVariants.{Bad, NoMemory}
use Rattle.pt_rowfile.specs.Rows.{IsBadAt}

-- the place is that of the first record that isn't proper; memory may want at any time
abbrev pub IsFaultOf : List ℕ → RowFault → Type 0
IsFaultOf bytes (Bad place) = IsBadAt bytes place
IsFaultOf bytes NoMemory = Unit {0}
