-- What a session stands for while statements are answered.
use Rattle.std.specs.Prelude.{◌≡◌, ◌⊎◌, ℕ, List, ◌++◌, Result, Ok, Err}
use Rattle.pt_host.specs.Listed.{FileList, by_name}
use Rattle.pt_host.specs.Disk.{Files, shown}
use Rattle.pt_host.specs.World.{World}
use Rattle.pt_store.specs.Store.{IsStore}
use Rattle.pt_ast.specs.declared.database.Db.{Db}
use Rattle.pt_session.specs.declared.session.Session.{Session}
use Rattle.pt_session.specs.Session.{IsOver}
use Rattle.pt_session.specs.Directory.{HoldsIn, IsDamaged}
use Rattle.pt_engine.specs.declared.ending.Ending.{Ending}
use Rattle.pt_engine.specs.Endings.{IfDamaged}

-- Its store stands for a map over this host, and it has the definitions and the next serial of that map. (The map holds a database,
-- or a file of it that wasn't read yet is damaged.)
pub record StandsOver (session : Session) (w : World) : Type 0 where
  pub map : FileList
  pub store : IsStore session.store map w
  pub over : IsOver session (by_name map)

-- So it does after a part of a run that may go on, and a file that is told to be damaged is. Nothing is told of another ending.
abbrev pub StaysOver : {T : Type 0} → Session → World → Result T Ending → Type 0
StaysOver after new (Ok x) = StandsOver after new
StaysOver after new (Err ending) = IfDamaged ending (IsDamaged (shown new.now.fs))

-- nothing is entered, and nothing taken
pub record EntersNothing (old new : World) : Type 0 where
  pub dir : new.dir ≡ old.dir
  pub input : new.input ≡ old.input

-- What statements leave whether or not a database is held.
pub record GoesOn {T : Type 0} (after : Session) (old new : World) (result : Result T Ending) : Type 0 where
  pub only : EntersNothing old new
  pub over : StaysOver after new result

-- Within one statement: the database before it with nothing of its answer said, or the one after it with a part of it said.
abbrev pub IsWithin : Db → Db → List ℕ → List ℕ → List ℕ → Files → Type 0
IsWithin db db_after before text said files =
    (HoldsIn files db × (said ≡ before)) ⊎ (HoldsIn files db_after × ((front rest : List ℕ) × (text ≡ front ++ rest) × (said ≡ before ++ front)))
