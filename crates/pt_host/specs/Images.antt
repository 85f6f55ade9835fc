-- Words for crash theorems: which files a layer holds, and how the images after a run of calls follow from those before it.
use Rattle.std.specs.Prelude.{◌≡◌, ◌≢◌, ◌⊎◌, ℕ, List, [], Some, None}
use Rattle.pt_host.specs.Disk.{Fs, Files, NameOp, Create, Rename, Unlink, Survives, put, moved, names_after, present, MayHold, AreFiles, IsImage, Torn}

-- Whatever a stop keeps, the name has this object.
abbrev pub IsSteady : Fs → List ℕ → ℕ → Type 0
IsSteady fs name object = (kept : List NameOp) → Survives fs.pending kept → names_after kept fs.names name ≡ Some object

-- Only this name has the object, in whatever is kept, where any has it.
pub record IsOwner (fs : Fs) (name : List ℕ) (object : ℕ) : Type 0 where
  pub now : present fs name ≡ Some object
  pub only : (kept : List NameOp) → Survives fs.pending kept → (names_after kept fs.names name ≡ None) ⊎ (names_after kept fs.names name ≡ Some object)
  pub alone : (kept : List NameOp) → Survives fs.pending kept → (query : List ℕ) → names_after kept fs.names query ≡ Some object → query ≡ name

-- The file is there with these bytes, whatever a stop leaves.
pub record IsHeld (fs : Fs) (name bytes : List ℕ) : Type 0 where
  pub object : ℕ
  pub steady : IsSteady fs name object
  pub sure : (left : List ℕ) → MayHold (fs.objects object) left → left ≡ bytes

-- The file is there with these present bytes, of which a stop may still lose some. A sync makes it held.
pub record IsThere (fs : Fs) (name file : List ℕ) : Type 0 where
  pub object : ℕ
  pub steady : IsSteady fs name object
  pub bytes : (fs.objects object).bytes ≡ file

-- What leaves this file alone: where the name has one object whatever a stop keeps, it still does, and the object is as it was.
pub record Keeps (old new : Fs) (name : List ℕ) : Type 0 where
  pub steady : (object : ℕ) → IsSteady old name object → IsSteady new name object
  pub same : (object : ℕ) → IsSteady old name object → new.objects object ≡ old.objects object

-- What a write to one file leaves alone: no name changes, and no other object.
pub record Rewrites (old new : Fs) (name : List ℕ) : Type 0 where
  pub names : new.names ≡ old.names
  pub pending : new.pending ≡ old.pending
  pub others : (object : ℕ) → present old name ≢ Some object → new.objects object ≡ old.objects object

-- two directories that are read alike
abbrev pub AreSame : Files → Files → Type 0
AreSame f g = (query : List ℕ) → g query ≡ f query

-- they differ at this name alone
abbrev pub OnlyAt : List ℕ → Files → Files → Type 0
OnlyAt name before after = (query : List ℕ) → query ≢ name → after query ≡ before query

-- Each pending operation is kept.
abbrev pub IsFull : Fs → Files → Type 0
IsFull fs files = AreFiles fs.objects (present fs) files

-- what a name operation does to files
abbrev pub files_after : NameOp → Files → Files
files_after (Create name object) files = put files name (Some [])
files_after (Rename from to) files = moved files from to (files from)
files_after (Unlink name) files = put files name None

-- The step of a name operation: nothing or all of it.
abbrev pub Does : NameOp → Files → Files → Type 0
Does op before after = AreSame before after ⊎ AreSame (files_after op before) after

-- The step of a change of one file: it isn't there, or its bytes are so related, and nothing else differs.
pub record Changes (name : List ℕ) (R : List ℕ → List ℕ → Type 0) (before after : Files) : Type 0 where
  pub only : OnlyAt name before after
  pub here : ((before name ≡ None) × (after name ≡ None)) ⊎ ((b a : List ℕ) × (before name ≡ Some b) × (after name ≡ Some a) × R b a)

-- The step of every write and sync: they differ in this range of this file alone.
pub record Tears (name : List ℕ) (at count : ℕ) (before after : Files) : Type 0 where
  pub only : OnlyAt name before after
  pub here : (b : List ℕ) → before name ≡ Some b → (a : List ℕ) × (after name ≡ Some a) × Torn at count b a

-- An image of before, from which a step leads to this one.
pub record Follows (fs : Fs) (R : Files → Files → Type 0) (after : Files) : Type 0 where
  pub before : Files
  pub image : IsImage fs before
  pub step : R before after
