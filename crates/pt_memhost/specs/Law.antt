-- The law of each moment holds of every story. Its lemmas stand here since the host's ghost member `sound` cites them.
use Rattle.std.proofs.Common.{◌≡◌, ◌∙◌, ℕ, ◌+◌, ◌<◌, ◌≤◌, Bool, true, false, cond, List, [], ◌∷◌, ◌++◌, length, map, get_or, append-nil, append_assoc, le_trans, refl, sym, subst, arith}
use Rattle.std.specs.Prelude.{Option, Some}
use Rattle.std.specs.List.{position_from}
use Rattle.std.specs.Str.{bytes_eq}
use Rattle.std.proofs.Math.ListN.{get_or-map}
use Rattle.std.proofs.lemmas.Slice.Eq.{bytes_eq-Decides}
use Rattle.pt_host.specs.Listed.{FileList}
use Rattle.pt_host.specs.Disk.{Fs, Names, empty_object, present, on_file, IsSound}
use Rattle.pt_host.specs.World.{World, next, after_say}
use Rattle.pt_host.proofs.Names.{survives_none}
use Rattle.pt_host.proofs.Sound.{AreApart, sound_apart, create_sound, rename_sound, unlink_sound, names_synced_sound, object_sound, write_sound, sync_sound, overwrite_longer}
use Rattle.pt_memhost.specs.declared.event.Event.{Event}
use Rattle.pt_memhost.specs.declared.event.Event.TheVariants.{Entered, Looked, Wrote, Tore, Synced, Created, Renamed, Unlinked, SyncedNames, Took, Said}
use Rattle.pt_memhost.specs.Story.{Story, sure_object, place_of, start_fs, start_world, torn_by, after_event, world_after, world_of}

-- the places of these files, counted from there on
abbrev pub counted_from : ℕ → FileList → Names
counted_from first files name = position_from (λ file. bytes_eq file.0 name) first files

record IsAmong (first : ℕ) (files : FileList) (place : ℕ) : Type 0 where
  least : first ≤ place
  most : place < first + length files

among : (files : FileList) (first : ℕ) (name : List ℕ) (place : ℕ) → counted_from first files name ≡ Some place → IsAmong first files place
among [] first name place e = cc
among (file ∷ files) first name place e = go (bytes_eq file.0 name) e (λ f. among files (first + 1) name place f)
  where
    go : (b : Bool) → cond b (Some first) (counted_from (first + 1) files name) ≡ Some place → (counted_from (first + 1) files name ≡ Some place → IsAmong (first + 1) files place) → IsAmong first (file ∷ files) place
    go true e rest = let same : first ≡ place = cc in record { least = omega arith; most = omega arith }
    go false e rest = let h : IsAmong (first + 1) files place = rest e in record { least = omega arith; most = omega arith }

once : (files : FileList) (first : ℕ) (a b : List ℕ) (place : ℕ) → counted_from first files a ≡ Some place → counted_from first files b ≡ Some place → a ≡ b
once [] first a b place e f = cc
once (file ∷ files) first a b place e f = go (bytes_eq file.0 a) (bytes_eq file.0 b) refl refl e f (λ x y. once files (first + 1) a b place x y)
  where
    go : (at_a at_b : Bool) → bytes_eq file.0 a ≡ at_a → bytes_eq file.0 b ≡ at_b → cond at_a (Some first) (counted_from (first + 1) files a) ≡ Some place → cond at_b (Some first) (counted_from (first + 1) files b) ≡ Some place
        → (counted_from (first + 1) files a ≡ Some place → counted_from (first + 1) files b ≡ Some place → a ≡ b) → a ≡ b
    go true true s t x y rest = sym ((bytes_eq-Decides file.0 a).0 s) ∙ (bytes_eq-Decides file.0 b).0 t
    go true false s t x y rest = let same : first ≡ place = cc in let h : IsAmong (first + 1) files place = among files (first + 1) b place y in absurd (omega arith)
    go false true s t x y rest = let same : first ≡ place = cc in let h : IsAmong (first + 1) files place = among files (first + 1) a place x in absurd (omega arith)
    go false false s t x y rest = rest x y

start_apart : (files : FileList) → AreApart (length files) (place_of files)
start_apart files = record {
  bound = λ name object e. let h : IsAmong 0 files object = among files 0 name object e in omega arith;
  once = λ a b object e f. once files 0 a b object e f;
}

-- each object is whole: all of its bytes are sure
pub start_object : (files : FileList) (object : ℕ) → get_or (map (λ file. sure_object file.1) files) object empty_object ≡ sure_object (get_or files object ([], [])).1
start_object files object = get_or-map (λ file. sure_object file.1) files object ([], [])

pub start_sound : (files : FileList) → IsSound (start_fs files)
start_sound files =
    sound_apart (start_fs files)
    (λ kept s. rw (survives_none kept s) (start_apart files))
    (λ object. rw (start_object files object) (omega arith))

-- What was said grows, and all else stays.
pub record IsSaid (bytes : List ℕ) (old new : World) : Type 0 where
  pub input : new.input ≡ old.input
  pub said : new.now.said ≡ old.now.said ++ bytes
  pub fs : new.now.fs ≡ old.now.fs
  pub syncs : new.now.syncs ≡ old.now.syncs
  pub written : new.now.bytes ≡ old.now.bytes

said_after : (w : World) (byte : ℕ) (bytes : List ℕ) (new : World)
    → IsSaid bytes (next w (record { fs = w.now.fs; said = w.now.said ++ byte ∷ []; looks = w.now.looks; syncs = w.now.syncs; bytes = w.now.bytes })) new → IsSaid (byte ∷ bytes) w new
said_after w byte bytes new h = record { input = h.input; said = h.said ∙ append_assoc w.now.said (byte ∷ []) bytes; fs = h.fs; syncs = h.syncs; written = h.written }

pub say_said : (bytes : List ℕ) (w : World) → IsSaid bytes w (after_say bytes w)
say_said [] w = record { input = refl; said = sym (append-nil w.now.said); fs = refl; syncs = refl; written = refl }
say_said (byte ∷ bytes) w =
    said_after w byte bytes _ (say_said bytes (next w (record { fs = w.now.fs; said = w.now.said ++ byte ∷ []; looks = w.now.looks; syncs = w.now.syncs; bytes = w.now.bytes })))

pub torn_by_sound : (fs : Fs) (name : Option ℕ) (at count : ℕ) (front : List ℕ) → IsSound fs → IsSound (on_file name (torn_by at count front) fs)
torn_by_sound fs name at count front = object_sound fs name (torn_by at count front) (λ o fits. le_trans fits (overwrite_longer at front o.bytes))

pub event_sound : (event : Event) (w : World) → IsSound w.now.fs → IsSound (after_event event w).now.fs
event_sound (Entered dir) w sound = sound
event_sound (Looked name) w sound = sound
event_sound (Wrote name at bytes) w sound = write_sound w.now.fs (present w.now.fs name) at bytes sound
event_sound (Tore name at count front) w sound = torn_by_sound w.now.fs (present w.now.fs name) at count front sound
event_sound (Synced name) w sound = sync_sound w.now.fs (present w.now.fs name) sound
event_sound (Created name) w sound = create_sound w.now.fs name sound
event_sound (Renamed from to) w sound = rename_sound w.now.fs from to sound
event_sound (Unlinked name) w sound = unlink_sound w.now.fs name sound
event_sound SyncedNames w sound = names_synced_sound w.now.fs sound
event_sound (Took count) w sound = sound
event_sound (Said bytes) w sound = let h : IsSaid bytes w (after_say bytes w) = say_said bytes w in subst IsSound (sym h.fs) sound

world_sound : (events : List Event) (w : World) → IsSound w.now.fs → IsSound (world_after events w).now.fs
unfolding world_after
world_sound [] w sound = sound
world_sound (event ∷ events) w sound = world_sound events (after_event event w) (event_sound event w sound)

-- No two names have one file, at any moment of any story.
pub law : (story : Story) → IsSound (world_of story).now.fs
law story = world_sound story.events (start_world story.files story.input) (start_sound story.files)
