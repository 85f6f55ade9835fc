-- The database that a directory holds, and what of it is damaged.
use Rattle.std.specs.Prelude.{ℕ, List}
use Rattle.pt_host.specs.Disk.{EachImage, Files}
use Rattle.pt_host.specs.Listed.{FileList, by_name}
use Rattle.pt_host.specs.World.{World}
use Rattle.pt_left.specs.Left.{IsLeft, IsWhole, NoneLeft}
use Rattle.pt_ast.specs.declared.database.Db.{Db}
use Rattle.pt_store.specs.Store.{IsStore}
use Rattle.pt_holds.specs.Bad.{Bad}
use Rattle.pt_holds.specs.Holds.{Holds}
use Rattle.pt_session.specs.declared.session.Session.{Session}
use Rattle.pt_session.specs.Session.{IsOver, StandsIn}

-- The directory stands for a map of files that holds the database.
pub record HoldsIn (files : Files) (db : Db) : Type 0 where
  pub map : FileList
  pub left : IsLeft map files
  pub holds : Holds (by_name map) db

-- The directory is damaged: `whole.map` spells no map, or a file of the map is bad at this place.
pub data IsDamaged (files : Files) (name : List ℕ) (place : ℕ) : Type 0 where
  Whole : IsWhole name place → NoneLeft files → IsDamaged files name place
  File : (map : FileList) → IsLeft map files → Bad (by_name map) name place → IsDamaged files name place

-- A session was opened: its store stands for the map that the directory stood for, it has the definitions and the next serial of that
-- map, and it stands for the database that the map holds.
pub record IsOpened (session : Session) (old new : World) : Type 0 where
  pub map : FileList
  pub left : EachImage old.now.fs (IsLeft map)
  pub store : IsStore session.store map new
  pub over : IsOver session (by_name map)
  pub stands : (db : Db) → Holds (by_name map) db → StandsIn session map db
