-- What is kept and said while statements are answered. (In the shape of the code.)
use Rattle.std.specs.Prelude.{◌≡◌, ◌⊎◌, ℕ, List, ◌++◌, Result, Ok, Err, IfOk}
use Rattle.pt_host.specs.Disk.{EachImage}
use Rattle.pt_host.specs.World.{World, Since, IsQuiet, IsIdle}
use Rattle.pt_ast.specs.declared.database.Db.{Db}
use Rattle.pt_ast.specs.declared.reply.Reply.{Reply}
use Rattle.pt_reading.specs.declared.reading.Reading.{Reading}
use Rattle.pt_reading.specs.Reading.{Reads}
use Rattle.pt_session.specs.declared.session.Session.{Session}
use Rattle.pt_session.specs.Directory.{HoldsIn}
use Rattle.pt_session.specs.Session.{IsSession}
use Rattle.pt_engine.specs.declared.ending.Ending.{Ending}
use Rattle.pt_engine.specs.declared.ending.Ending.TheVariants.{DiskFault, NoMemory, OutputFault}
use Rattle.pt_engine.specs.Answers.{AreFirst, ChangesNothing, Rests, after_one, answer_to, after_all, answers}
use Rattle.pt_engine.specs.Kept.{KeepsInOrder, StandsAfter, StandsKeeping, StandsSaying}
use Rattle.pt_engine.specs.Session.{IsWithin}

-- What a statement that was executed left, by its end: the session stands for the database after it, or each image holds the one
-- before it.
abbrev pub LeavesOne : Db → Db → Session → World → Result Reply Ending → Type 0
LeavesOne db later after new (Ok reply) = IsSession after later new
LeavesOne db later after new (Err NoMemory) = EachImage new.now.fs (λ files. HoldsIn files db)
LeavesOne db later after new (Err DiskFault) = Unit {0}
LeavesOne db later after new (Err _) = ⊥

-- One statement was executed, which has this number and is read so: at each moment each image holds the database before it or the
-- one after it, and this is its answer. One that rests leaves the disk untouched.
pub record ExecutesOne (number : ℕ) (reading : Reading) (db : Db) (after : Session) (old new : World) (result : Result Reply Ending) : Type 0 where
  pub moments : IsQuiet old new (λ files. HoldsIn files db ⊎ HoldsIn files (after_one db reading))
  pub left : LeavesOne db (after_one db reading) after new result
  pub text : IfOk result (λ reply. reply.text ≡ answer_to db number reading)
  pub idle : Rests db reading → IsIdle old new

-- Of a statement: at each moment it is kept or not, and a part of its answer said only where it is kept. Where it rests, the disk is
-- untouched.
pub record KeepsOne (number : ℕ) (reading : Reading) (db : Db) (old new : World) : Type 0 where
  pub moments : Since old new (λ m. EachImage m.fs (IsWithin db (after_one db reading) old.now.said (answer_to db number reading) m.said))
  pub idle : Rests db reading → IsIdle old new

-- One statement was executed and kept, and then its answer said.
pub record AnswersOne (number : ℕ) (piece : List ℕ) (db : Db) (after : Session) (old new : World) : Type 0 where
  pub reading : Reading
  pub reads : Reads piece reading
  pub keeps : KeepsOne number reading db old new
  pub said : new.now.said ≡ old.now.said ++ answer_to db number reading
  pub session : IsSession after (after_one db reading) new

-- what stands where a statement was stopped in
abbrev pub StandsOne : Ending → ℕ → Reading → Db → World → World → Type 0
StandsOne NoMemory number reading db old new = (new.now.said ≡ old.now.said) × EachImage new.now.fs (λ files. HoldsIn files db)
StandsOne DiskFault number reading db old new = (new.now.said ≡ old.now.said) × EachImage new.now.fs (λ files. HoldsIn files db ⊎ HoldsIn files (after_one db reading))
StandsOne OutputFault number reading db old new =
    ((front rest : List ℕ) × (answer_to db number reading ≡ front ++ rest) × (new.now.said ≡ old.now.said ++ front)) × EachImage new.now.fs (λ files. HoldsIn files (after_one db reading))
StandsOne _ number reading db old new = ⊥

-- One statement was stopped in: memory was wanting before it was read, and nothing was done; or it was read.
pub data StopsOne (ending : Ending) (number : ℕ) (piece : List ℕ) (db : Db) (old new : World) : Type 0 where
  Unread : ending ≡ NoMemory → new ≡ old → StopsOne ending number piece db old new
  Within : (reading : Reading) → Reads piece reading → KeepsOne number reading db old new → StandsOne ending number reading db old new → StopsOne ending number piece db old new

-- Of the statements so many were answered, and their answers said whole and nothing else.
pub record AnswersFirst (db : Db) (statements : List (List ℕ)) (count : ℕ) (session : Session) (old new : World) : Type 0 where
  pub readings : List Reading
  pub first : AreFirst statements count readings
  pub said : new.now.said ≡ old.now.said ++ answers db 1 readings
  pub stands : IsSession session (after_all db readings) new
  pub in_order : KeepsInOrder db statements old new
  pub idle : ChangesNothing db statements → IsIdle old new

-- how many of them stand at each ending
abbrev pub StandsFirst : Ending → Db → List (List ℕ) → World → World → Type 0
StandsFirst NoMemory db statements old new = (k : ℕ) × StandsAfter db statements old.now.said new k
StandsFirst DiskFault db statements old new = (k : ℕ) × StandsKeeping db statements old.now.said new k
StandsFirst OutputFault db statements old new = (k : ℕ) × StandsSaying db statements old.now.said new k
StandsFirst _ db statements old new = ⊥

-- Some of them were answered, and then one was stopped in.
pub record StopsFirst (ending : Ending) (db : Db) (statements : List (List ℕ)) (old new : World) : Type 0 where
  pub in_order : KeepsInOrder db statements old new
  pub idle : ChangesNothing db statements → IsIdle old new
  pub stands : StandsFirst ending db statements old new
