-- The outside as a program meets it: a directory's files, the input still to come, what was said, and each moment so far.
--
-- A stop may fall at any moment. A call adds a moment where something in it changes: after `enter`, `list`, `length`,
-- `take` and a failed call that did nothing, the moment would be one that is there already. A `say` adds one for each
-- byte. What a stop within a write, a sync or a name operation leaves is among the images of the moments beside it.
use Rattle.std.specs.Prelude.{◌≡◌, ◌⊎◌, ℕ, ◌+◌, ◌-◌, ◌≤◌, ◌↔◌, min, Bool, true, false, List, [], ◌∷◌, ◌++◌, length, take, drop, Option, Some, All, Contains, IsSome, slice_get}
use Rattle.std.specs.Cmp.Lexicographic.{slice_cmp}
use Rattle.std.specs.Ordering.{nat_cmp}
use Rattle.std.specs.List.Sorted.{IsStrictlySortedBy}
use Rattle.pt_host.specs.Disk.{Fs, Files, EachImage, present, shown, on_file, names_synced, written, torn, Torn, synced}

-- what a stop at this moment meets, and what was spent up to it
pub record Moment : Type 0 where
  pub fs : Fs
  pub said : List ℕ
  -- the names that `read_at` was called on
  pub looks : List (List ℕ)
  pub syncs : ℕ
  -- how many bytes were given to `write_at`
  pub bytes : ℕ

pub record World : Type 0 where
  -- the directory that was entered
  pub dir : Option (List ℕ)
  pub input : List ℕ
  pub now : Moment
  -- each moment so far, this one too
  pub moments : List Moment

abbrev pub next : World → Moment → World
next w moment = record { dir = w.dir; input = w.input; now = moment; moments = w.moments ++ moment ∷ [] }

abbrev pub with_fs : Moment → Fs → Moment
with_fs m fs = record { fs = fs; said = m.said; looks = m.looks; syncs = m.syncs; bytes = m.bytes }

abbrev pub after_enter : List ℕ → World → World
after_enter dir w = record { dir = Some dir; input = w.input; now = w.now; moments = w.moments }

abbrev pub after_look : List ℕ → World → World
after_look name w = next w (record { fs = w.now.fs; said = w.now.said; looks = w.now.looks ++ name ∷ []; syncs = w.now.syncs; bytes = w.now.bytes })

abbrev pub after_write : List ℕ → ℕ → List ℕ → World → World
after_write name at bytes w = next w (record { fs = on_file (present w.now.fs name) (written at bytes) w.now.fs; said = w.now.said; looks = w.now.looks; syncs = w.now.syncs; bytes = w.now.bytes + length bytes })

abbrev pub after_torn : List ℕ → ℕ → ℕ → List ℕ → World → World
after_torn name at count left w = next w (record { fs = on_file (present w.now.fs name) (torn at count left) w.now.fs; said = w.now.said; looks = w.now.looks; syncs = w.now.syncs; bytes = w.now.bytes + count })

abbrev pub after_sync : List ℕ → World → World
after_sync name w = next w (record { fs = on_file (present w.now.fs name) synced w.now.fs; said = w.now.said; looks = w.now.looks; syncs = w.now.syncs + 1; bytes = w.now.bytes })

abbrev pub after_fs : Fs → World → World
after_fs fs w = next w (with_fs w.now fs)

abbrev pub after_sync_names : World → World
after_sync_names w = next w (record { fs = names_synced w.now.fs; said = w.now.said; looks = w.now.looks; syncs = w.now.syncs + 1; bytes = w.now.bytes })

abbrev pub after_take : ℕ → World → World
after_take count w = record { dir = w.dir; input = drop count w.input; now = w.now; moments = w.moments }

-- a moment after each byte
abbrev pub after_say : List ℕ → World → World
after_say [] w = w
after_say (byte ∷ bytes) w = after_say bytes (next w (record { fs = w.now.fs; said = w.now.said ++ byte ∷ []; looks = w.now.looks; syncs = w.now.syncs; bytes = w.now.bytes }))

-- A failed call: nothing of it happened, or this did.
abbrev pub FailedWrite : List ℕ → ℕ → ℕ → World → World → Type 0
FailedWrite name at count old new = (new ≡ old) ⊎ ((before left : List ℕ) × (shown old.now.fs name ≡ Some before) × Torn at count before left × (new ≡ after_torn name at count left old))

abbrev pub FailedSay : List ℕ → World → World → Type 0
FailedSay bytes old new = (part rest : List ℕ) × (bytes ≡ part ++ rest) × (new ≡ after_say part old)

-- A listing of the files' names in rising byte order.
pub record IsListing (fs : Fs) (names : List (List ℕ)) : Type 0 where
  pub rising : IsStrictlySortedBy (slice_cmp nat_cmp) names
  pub there : (name : List ℕ) → IsSome (present fs name) ↔ Contains names name

-- the i-th name, or that there are no more than i
abbrev pub Lists : Fs → ℕ → Bool → List ℕ → List ℕ → Type 0
Lists fs i true before after = (names : List (List ℕ)) × IsListing fs names × (slice_get names i ≡ Some after)
Lists fs i false before after = (names : List (List ℕ)) × IsListing fs names × (length names ≤ i) × (after ≡ before)

-- what a read of so many bytes at a place gives, into a buffer with these bytes
pub record Reads (file : List ℕ) (at count : ℕ) (before after : List ℕ) : Type 0 where
  pub count_is : count ≡ min (length before) (length file - at)
  pub bytes : after ≡ take count (drop at file) ++ drop count before

pub record Takes (input : List ℕ) (count : ℕ) (before after : List ℕ) : Type 0 where
  pub fits : count ≤ length input
  pub bytes : after ≡ take count input ++ drop count before
  pub at_end : count ≡ 0 → input ≡ []

-- Of a run of calls: the moments that were added have P.
pub record Since (old new : World) (P : Moment → Type 0) : Type 0 where
  pub added : List Moment
  pub grows : new.moments ≡ old.moments ++ added
  pub each : All P added

-- A run that enters, takes and says nothing, and of which each image, of each moment that it added and now, has P.
pub record IsQuiet (old new : World) (P : Files → Type 0) : Type 0 where
  pub dir : new.dir ≡ old.dir
  pub input : new.input ≡ old.input
  pub said : new.now.said ≡ old.now.said
  pub now : EachImage new.now.fs P
  pub since : Since old new (λ m. (m.said ≡ old.now.said) × EachImage m.fs P)

-- The disk is as it was, and nothing more was synced or written. (Files may have been looked at.)
pub record IsUntouched (before m : Moment) : Type 0 where
  pub fs : m.fs ≡ before.fs
  pub syncs : m.syncs ≡ before.syncs
  pub bytes : m.bytes ≡ before.bytes

-- The disk is untouched at each moment that was added and now. (Something may have been taken or said.)
pub record IsIdle (old new : World) : Type 0 where
  pub now : IsUntouched old.now new.now
  pub since : Since old new (IsUntouched old.now)

-- A run that only looks: it enters, takes and says nothing, and the disk is untouched, at each moment that it added and now.
pub record OnlyLooks (old new : World) : Type 0 where
  pub dir : new.dir ≡ old.dir
  pub input : new.input ≡ old.input
  pub said : new.now.said ≡ old.now.said
  pub now : IsUntouched old.now new.now
  pub since : Since old new (λ m. (m.said ≡ old.now.said) × IsUntouched old.now m)
