-- What a call on a store leaves.
use Rattle.std.specs.Prelude.{◌≡◌, Result, None, IsTrue}
use Rattle.pt_host.specs.Disk.{EachImage, shown}
use Rattle.pt_host.specs.World.{World, IsQuiet, OnlyLooks}
use Rattle.pt_host.specs.Listed.{FileList}
use Rattle.pt_host.specs.Replacement.{AsBeforeBut}
use Rattle.pt_left.specs.Left.{shadow_name, IsLeft, IsEither}
use Rattle.pt_store.specs.declared.store.Store.{Store}
use Rattle.pt_store.specs.declared.stop.Stop.{Stop}
use Rattle.pt_store.specs.Stops.{ByStop}
use Rattle.pt_store.specs.Store.{IsStore, is_live, sizes, sizes_of}

-- A call whose success puts the map `next` in the place of `map`. Whatever it answers, each image of each moment stands for
-- one of the two; and unless the disk failed, the store stands for one of them afterwards.
pub record IsStep {T : Type 0} (store : Store) (map next : FileList) (old new : World) (result : Result T Stop) : Type 0 where
  pub moments : IsQuiet old new (IsEither map next)
  pub stands : ByStop result (IsStore store next new) (IsStore store map new) (Unit {0})

-- A run of calls that only looked: the store stands for its map still.
pub record IsLook (store : Store) (map : FileList) (old new : World) : Type 0 where
  pub looks : OnlyLooks old new
  pub stands : IsStore store map new

-- A run that removes a leftover shadow at most: the directory stands for the map that it stood for at every moment, and also
-- where it stood for none no other file has changed. Where no shadow was left it only looks.
pub record OnlyClears (old new : World) : Type 0 where
  pub map : (map : FileList) → EachImage old.now.fs (IsLeft map) → IsQuiet old new (IsLeft map)
  pub others : IsQuiet old new (AsBeforeBut old.now.fs shadow_name)
  pub looks : shown old.now.fs shadow_name ≡ None → OnlyLooks old new

-- Over every host: the store is live, and has the names and lengths of these files.
pub record HasSizes (store : Store) (files : FileList) : Type 0 where
  pub live : IsTrue (is_live store)
  pub sizes_are : sizes store ≡ sizes_of files
