-- What a run says and leaves, by the words of the command line and what it began with.
use Rattle.std.specs.Prelude.{◌≡◌, ◌⊎◌, ℕ, Bool, true, false, cond, List, [], ◌∷◌, length, codes, Option, Some, None}
use Rattle.std.specs.Str.{bytes_eq}
use Rattle.pt_host.specs.Disk.{shown}
use Rattle.pt_host.specs.World.{World}
use Rattle.pt_ast.specs.declared.database.Db.{Db}
use Rattle.pt_reading.specs.Script.{has_excess, statements, TakesWithin}
use Rattle.pt_session.specs.Directory.{HoldsIn, IsDamaged}
use Rattle.pt_engine.specs.declared.ending.Ending.{Ending}
use Rattle.pt_engine.specs.declared.ending.Ending.TheVariants.{Done, Usage, DiskFault, NoMemory, Damaged, InputFault, OutputFault, TooLong}
use Rattle.pt_engine.specs.Endings.{IfDamaged}
use Rattle.pt_engine.specs.Kept.{StandsAfter, StandsKeeping, StandsSaying}

-- The word DIR of `run DIR`, which is the one form of words.
abbrev pub dir_of : List (List ℕ) → Option (List ℕ)
dir_of (command ∷ dir ∷ []) = cond (bytes_eq command (codes "run")) (Some dir) None
dir_of (command ∷ dir ∷ more ∷ words) = None
dir_of (command ∷ []) = None
dir_of [] = None

-- A whole script: the input was taken to its end, it keeps the limits, exactly the answers are printed, and every image
-- holds the last database.
pub record IsWholeRun (db : Db) (old new : World) : Type 0 where
  pub taken : new.input ≡ []
  pub within : has_excess old.input ≡ false
  pub stands : StandsAfter db (statements old.input) old.now.said new (length (statements old.input))

-- A limit is passed. The statements before the excess are executed and answered.
pub record IsCutRun (db : Db) (old new : World) : Type 0 where
  pub passed : has_excess old.input ≡ true
  pub stands : StandsAfter db (statements old.input) old.now.said new (length (statements old.input))

-- What stands at each ending, where the directory held this database.
abbrev pub StandsAt : Db → Ending → World → World → Type 0
StandsAt db Done old new = IsWholeRun db old new
StandsAt db TooLong old new = IsCutRun db old new
StandsAt db NoMemory old new = (k : ℕ) × StandsAfter db (statements old.input) old.now.said new k
StandsAt db InputFault old new = StandsAfter db (statements old.input) old.now.said new 0 × TakesWithin old.input new.input
StandsAt db DiskFault old new = (k : ℕ) × StandsKeeping db (statements old.input) old.now.said new k
StandsAt db OutputFault old new = (k : ℕ) × StandsSaying db (statements old.input) old.now.said new k
StandsAt db Usage old new = new ≡ old
StandsAt db (Damaged name place) old new = ⊥

-- Damage: the directory held no database when the run began, and the file as it is read at the end is damaged at this place.
pub record IsDamage (name : List ℕ) (place : ℕ) (old new : World) : Type 0 where
  pub none : (db : Db) → HoldsIn (shown old.now.fs) db → ⊥
  pub bad : IsDamaged (shown new.now.fs) name place

-- Damage is told of damage alone.
abbrev pub TellsDamage : Ending → World → World → Type 0
TellsDamage ending old new = IfDamaged ending (λ name place. IsDamage name place old new)

-- Where no count rose, want of memory alone keeps a run from its end.
abbrev pub IsComplete : Bool → Ending → Type 0
IsComplete false ending = (ending ≡ Done) ⊎ (ending ≡ NoMemory)
IsComplete true ending = (ending ≡ TooLong) ⊎ (ending ≡ NoMemory)
