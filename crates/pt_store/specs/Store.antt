-- What a store is, and what it stands for.
use Rattle.std.specs.Prelude.{◌≡◌, ℕ, Bool, List, [], length, map, IsSome, IsTrue}
use Rattle.pt_host.specs.Listed.{FileList}
use Rattle.pt_host.specs.Disk.{EachImage, shown}
use Rattle.pt_host.specs.World.{World}
use Rattle.pt_store.specs.declared.store.Store.{Store}
use Rattle.pt_left.specs.Left.{whole_name, IsLeft}
use Rattle.pt_store.specs.Entries.{AreEntries, bytes_of, size_of}

-- it has not failed
abbrev pub is_live : Store → Bool
is_live store = store.live

-- the names that it holds, in their order, with the lengths of their files
abbrev pub sizes : Store → List (List ℕ × ℕ)
sizes store = map size_of store.entries

-- the same of a map
abbrev pub sizes_of : FileList → List (List ℕ × ℕ)
sizes_of files = map (λ file. (file.0, length file.1)) files

-- The store stands for this map over this host: whatever a stop leaves now, the directory stands for it.
-- (A caller passes it on whole. `entered`, `settled` and `here` are what the store's own calls need.)
pub record IsStore (store : Store) (files : FileList) (w : World) : Type 0 where
  pub live : IsTrue (is_live store)
  pub left : EachImage w.now.fs (IsLeft files)
  pub entered : IsSome w.dir
  pub settled : w.now.fs.pending ≡ []
  pub here : AreEntries (bytes_of (shown w.now.fs whole_name)) store.entries files

-- it stands for some map
abbrev pub HasMap : Store → World → Type 0
HasMap store w = (files : FileList) × IsStore store files w
