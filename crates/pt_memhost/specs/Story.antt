-- What a host in memory was given, each call that moved its world on, and the world that they lead to.
use Rattle.std.specs.Prelude.{ℕ, ◌+◌, List, [], ◌∷◌, ◌++◌, length, map, Option, None, slice_index_or}
use Rattle.std.specs.List.{position_from}
use Rattle.std.specs.Str.{bytes_eq}
use Rattle.pt_host.specs.Listed.{FileList}
use Rattle.pt_host.specs.Disk.{Fs, Object, empty_object, overwrite, torn, Rename, Unlink, present, on_file, created, with_op}
use Rattle.pt_host.specs.World.{World, Moment, next, after_enter, after_look, after_write, after_sync, after_fs, after_sync_names, after_take, after_say}
use Rattle.pt_memhost.specs.declared.event.Event.{Event}
use Rattle.pt_memhost.specs.declared.event.Event.TheVariants.{Entered, Looked, Wrote, Tore, Synced, Created, Renamed, Unlinked, SyncedNames, Took, Said}

-- all of its bytes are sure
abbrev pub sure_object : List ℕ → Object
sure_object bytes = record { bytes = bytes; least = length bytes; loose = [] }

-- the place of the file with a name
abbrev pub place_of : FileList → List ℕ → Option ℕ
place_of files name = position_from (λ file. bytes_eq file.0 name) 0 files

-- These files at rest: the i-th one is object i.
abbrev pub start_fs : FileList → Fs
start_fs files = record {
  objects = λ i. slice_index_or (map (λ file. sure_object file.1) files) i empty_object;
  made = length files;
  names = place_of files;
  pending = [];
}

abbrev pub start_moment : FileList → Moment
start_moment files = record { fs = start_fs files; said = []; looks = []; syncs = 0; bytes = 0 }

-- nothing entered, taken or said
abbrev pub start_world : FileList → List ℕ → World
start_world files input = record { dir = None; input = input; now = start_moment files; moments = start_moment files ∷ [] }

-- A write of so many bytes left its range loose and put these bytes, which are the first ones or all.
abbrev pub torn_by : ℕ → ℕ → List ℕ → Object → Object
torn_by at count front object = torn at count (overwrite at front object.bytes) object

abbrev pub after_torn_by : List ℕ → ℕ → ℕ → List ℕ → World → World
after_torn_by name at count front w = next w (record { fs = on_file (present w.now.fs name) (torn_by at count front) w.now.fs; said = w.now.said; looks = w.now.looks; syncs = w.now.syncs; bytes = w.now.bytes + count })

abbrev pub after_event : Event → World → World
after_event (Entered dir) w = after_enter dir w
after_event (Looked name) w = after_look name w
after_event (Wrote name at bytes) w = after_write name at bytes w
after_event (Tore name at count front) w = after_torn_by name at count front w
after_event (Synced name) w = after_sync name w
after_event (Created name) w = after_fs (created name w.now.fs) w
after_event (Renamed from to) w = after_fs (with_op (Rename from to) w.now.fs) w
after_event (Unlinked name) w = after_fs (with_op (Unlink name) w.now.fs) w
after_event SyncedNames w = after_sync_names w
after_event (Took count) w = after_take count w
after_event (Said bytes) w = after_say bytes w

-- the newest event comes last
unfoldable pub world_after : List Event → World → World
world_after [] w = w
world_after (event ∷ events) w = world_after events (after_event event w)

pub record Story : Type 0 where
  pub files : FileList
  pub input : List ℕ
  pub events : List Event

abbrev pub world_of : Story → World
world_of story = world_after story.events (start_world story.files story.input)

-- one more event
abbrev pub with_event : Story → Event → Story
with_event story event = record story { events = story.events ++ event ∷ [] }
