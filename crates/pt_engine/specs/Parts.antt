-- What the parts of a run promise one another. (In the shape of the code. `run` spells out each field of `IsRun`.)
use Rattle.std.specs.Prelude.{◌≡◌, ℕ, Bool, true, false, List, length, None}
use Rattle.pt_host.specs.Disk.{shown}
use Rattle.pt_host.specs.World.{World, IsIdle}
use Rattle.pt_left.specs.Left.{shadow_name}
use Rattle.pt_ast.specs.declared.database.Db.{Db}
use Rattle.pt_engine.specs.declared.ending.Ending.{Ending}
use Rattle.pt_engine.specs.declared.ending.Ending.TheVariants.{Done, DiskFault, NoMemory, OutputFault, TooLong}
use Rattle.pt_engine.specs.declared.input.Taken.{Taken}
use Rattle.pt_engine.specs.Answers.{ChangesNothing}
use Rattle.pt_reading.specs.Script.{statements}
use Rattle.pt_session.specs.Directory.{HoldsIn}
use Rattle.pt_engine.specs.Kept.{KeepsInOrder, StandsAfter, StandsKeeping, StandsSaying}
use Rattle.pt_engine.specs.Run.{StandsAt, TellsDamage}

-- All that a run over a directory tells, but for the directory that it enters.
pub record IsRun (ending : Ending) (old new : World) : Type 0 where
  pub damage : TellsDamage ending old new
  pub headline : (db : Db) → HoldsIn (shown old.now.fs) db → KeepsInOrder db (statements old.input) old new
  pub stands : (db : Db) → HoldsIn (shown old.now.fs) db → StandsAt db ending old new
  pub idle : (db : Db) → HoldsIn (shown old.now.fs) db → shown old.now.fs shadow_name ≡ None → ChangesNothing db (statements old.input) → IsIdle old new

-- how the answering of what was taken ends, and what then stands of the statements, behind what was said before
abbrev pub StandsTaken : Ending → Bool → Db → List (List ℕ) → List ℕ → World → Type 0
StandsTaken Done too_long db statements before new = (too_long ≡ false) × StandsAfter db statements before new (length statements)
StandsTaken TooLong too_long db statements before new = (too_long ≡ true) × StandsAfter db statements before new (length statements)
StandsTaken NoMemory too_long db statements before new = (k : ℕ) × StandsAfter db statements before new k
StandsTaken DiskFault too_long db statements before new = (k : ℕ) × StandsKeeping db statements before new k
StandsTaken OutputFault too_long db statements before new = (k : ℕ) × StandsSaying db statements before new k
StandsTaken _ too_long db statements before new = ⊥

-- What was taken of the input was answered, to its end or in part.
pub record AnswersTaken (ending : Ending) (db : Db) (taken : Taken) (old new : World) : Type 0 where
  pub in_order : KeepsInOrder db taken.statements old new
  pub idle : ChangesNothing db taken.statements → IsIdle old new
  pub stands : StandsTaken ending taken.too_long db taken.statements old.now.said new
