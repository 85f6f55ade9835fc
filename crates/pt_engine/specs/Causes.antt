-- What each ending has as its cause.
use Rattle.std.specs.Prelude.{◌≡◌, ◌≢◌, Result, Ok, Err}
use Rattle.pt_host.specs.Counts.{Counts, Rose, DiskFailed, InputFailed, OutputFailed}
use Rattle.pt_engine.specs.declared.ending.Ending.{Ending}
use Rattle.pt_engine.specs.declared.ending.Ending.TheVariants.{Done, Usage, DiskFault, NoMemory, Damaged, InputFault, OutputFault, TooLong}

-- A fault of the directory, the input or the output is the ending only where that count rose, and no other count changes then.
-- No other ending changes a count.
abbrev pub IsCaused : Counts → Counts → Ending → Type 0
IsCaused old new DiskFault = DiskFailed old new
IsCaused old new InputFault = InputFailed old new
IsCaused old new OutputFault = OutputFailed old new
IsCaused old new Done = new ≡ old
IsCaused old new Usage = new ≡ old
IsCaused old new NoMemory = new ≡ old
IsCaused old new (Damaged name place) = new ≡ old
IsCaused old new TooLong = new ≡ old

-- The same of a part of a run, which goes on after Ok. The words are of the form there.
abbrev pub HasCauses : {T : Type 0} → Counts → Counts → Result T Ending → Type 0
HasCauses old new (Ok x) = new ≡ old
HasCauses old new (Err ending) = (ending ≢ Usage) × IsCaused old new ending

-- no count rose
pub record NoneRose (old new : Counts) : Type 0 where
  pub disk : Rose old.disk new.disk → ⊥
  pub input : Rose old.input new.input → ⊥
  pub output : Rose old.output new.output → ⊥
