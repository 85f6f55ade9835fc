-- Why a call stopped, and what it may then have cost.
use Rattle.std.specs.Prelude.{◌≡◌, ℕ, List, Result, Ok, Err}
use Rattle.pt_host.specs.Counts.{Counts, DiskFailed}
use Rattle.pt_store.specs.declared.stop.Stop.{Stop}
use Rattle.pt_store.specs.declared.stop.Stop.TheVariants.{NoMemory, Fault, Bad}

-- what holds after a call, by how it ended: one after Ok, one where it stopped with nothing done, one after a fault
abbrev pub ByStop : {T : Type 0} → Result T Stop → Type 0 → Type 0 → Type 0 → Type 0
ByStop (Ok x) Done Stopped Failed = Done
ByStop (Err NoMemory) Done Stopped Failed = Stopped
ByStop (Err (Bad name place)) Done Stopped Failed = Stopped
ByStop (Err Fault) Done Stopped Failed = Failed

-- A fault is answered only where the count of the disk's faults rose, and no other answer changes a count.
abbrev pub IsCounted : {T : Type 0} → Counts → Counts → Result T Stop → Type 0
IsCounted old new result = ByStop result (new ≡ old) (new ≡ old) (DiskFailed old new)

-- what holds where the answer is that a file is bad
abbrev pub IfBad : {T : Type 0} → Result T Stop → (List ℕ → ℕ → Type 0) → Type 0
IfBad (Err (Bad name place)) P = P name place
IfBad (Ok x) P = Unit {0}
IfBad (Err NoMemory) P = Unit {0}
IfBad (Err Fault) P = Unit {0}
