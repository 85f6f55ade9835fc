-- What is taken of the input.
use Rattle.std.specs.Prelude.{◌≡◌, false, List, [], ℕ, ◌++◌}
use Rattle.pt_host.specs.World.{World}
use Rattle.pt_reading.specs.declared.script.Script.{Script}
use Rattle.pt_engine.specs.declared.input.Taken.{Taken}
use Rattle.pt_engine.specs.declared.ending.Ending.{Ending}
use Rattle.pt_engine.specs.declared.ending.Ending.TheVariants.{NoMemory, InputFault}
use Rattle.pt_reading.specs.Script.{has_excess, statements, TakesWithin}
use Rattle.pt_reading.specs.Taking.{IsTaken}

-- with this much of the input still to come
abbrev pub with_input : List ℕ → World → World
with_input input w = record { dir = w.dir; input = input; now = w.now; moments = w.moments }

-- nothing but the input has changed
abbrev pub TakesOnly : World → World → Type 0
TakesOnly old new = new ≡ with_input new.input old

-- the statements of the input, which was taken to its end where it keeps the limits
pub record TakesScript (old new : World) (taken : Taken) : Type 0 where
  pub only : TakesOnly old new
  pub statements : taken.statements ≡ statements old.input
  pub too_long : taken.too_long ≡ has_excess old.input
  pub to_the_end : taken.too_long ≡ false → new.input ≡ []

-- on the way there
pub record TakesFront (old new : World) (script : Script) : Type 0 where
  pub only : TakesOnly old new
  pub front : List ℕ
  pub taken : IsTaken front script
  pub input : old.input ≡ front ++ new.input

-- Where it stopped: the input failed, and nothing that was taken passes a limit; or memory was wanting.
abbrev pub StopsTaking : Ending → World → World → Type 0
StopsTaking InputFault old new = TakesOnly old new × TakesWithin old.input new.input
StopsTaking NoMemory old new = TakesOnly old new
StopsTaking _ old new = ⊥
