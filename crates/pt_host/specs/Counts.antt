-- Counts of failed calls, and the cause of each failure.
use Rattle.std.specs.Prelude.{◌≡◌, ℕ, ◌+◌, ◌-◌, ◌≤◌, ◌^◌, min, Result, OnOk, OnErr}

-- `now` is greater than `before`, or stands at the counter's last value
abbrev pub Rose : ℕ → ℕ → Type 0
Rose before now = min (before + 1) (2 ^ 64 - 1) ≤ now

-- A failure is answered only where the count rose, and the count rises only there.
pub record HasCause {T E : Type 0} (before now : ℕ) (result : Result T E) : Type 0 where
  pub later : before ≤ now
  pub failed : OnErr result (Rose before now)
  pub kept : OnOk result (now ≡ before)

-- how often the directory, the input and the output of a host have failed
pub record Counts : Type 0 where
  pub disk : ℕ
  pub input : ℕ
  pub output : ℕ

-- the directory failed, and nothing else
pub record DiskFailed (old new : Counts) : Type 0 where
  pub later : old.disk ≤ new.disk
  pub rose : Rose old.disk new.disk
  pub input : new.input ≡ old.input
  pub output : new.output ≡ old.output

-- the input failed, and nothing else
pub record InputFailed (old new : Counts) : Type 0 where
  pub later : old.input ≤ new.input
  pub rose : Rose old.input new.input
  pub disk : new.disk ≡ old.disk
  pub output : new.output ≡ old.output

-- the output failed, and nothing else
pub record OutputFailed (old new : Counts) : Type 0 where
  pub later : old.output ≤ new.output
  pub rose : Rose old.output new.output
  pub disk : new.disk ≡ old.disk
  pub input : new.input ≡ old.input

-- A call on the directory, the input or the output fails only where that count rose. No other count changes, and none where
-- the call succeeds.
pub record DiskCall {T E : Type 0} (old new : Counts) (result : Result T E) : Type 0 where
  pub kept : OnOk result (new ≡ old)
  pub failed : OnErr result (DiskFailed old new)

pub record InputCall {T E : Type 0} (old new : Counts) (result : Result T E) : Type 0 where
  pub kept : OnOk result (new ≡ old)
  pub failed : OnErr result (InputFailed old new)

pub record OutputCall {T E : Type 0} (old new : Counts) (result : Result T E) : Type 0 where
  pub kept : OnOk result (new ≡ old)
  pub failed : OnErr result (OutputFailed old new)
