-- What becomes of a directory while one of its files is replaced by way of its shadow.
--
-- The shadow is made where there is none for sure (IsClear), filled (IsDraft), and synced (IsReady). A rename then gives
-- it the file's name. At each moment every image has the old file or the new one whole, and all other names but the
-- shadow's as they were (IsBeforeOrAfter).
use Rattle.std.specs.Prelude.{◌≡◌, ◌≢◌, ◌⊎◌, ℕ, List, [], Some, None}
use Rattle.pt_host.specs.Disk.{Fs, Files, MayHold}
use Rattle.pt_host.specs.Images.{IsOwner, OnlyAt, Follows}

-- an image of before, but for this name
abbrev pub AsBeforeBut : Fs → List ℕ → Files → Type 0
AsBeforeBut fs name after = Follows fs (OnlyAt name) after

-- The file may have the new bytes, and its shadow any.
pub record Replaces (name shadow bytes : List ℕ) (before after : Files) : Type 0 where
  pub others : (query : List ℕ) → query ≢ name → query ≢ shadow → after query ≡ before query
  pub here : (after name ≡ before name) ⊎ (after name ≡ Some bytes)

-- an image of before, but that the file may have the new bytes, and its shadow any
abbrev pub IsBeforeOrAfter : Fs → List ℕ → List ℕ → List ℕ → Files → Type 0
IsBeforeOrAfter fs name shadow bytes after = Follows fs (Replaces name shadow bytes) after

-- No name operation is pending, and there is no such file.
pub record IsClear (fs : Fs) (name : List ℕ) : Type 0 where
  pub settled : fs.pending ≡ []
  pub none : fs.names name ≡ None

-- The file has these present bytes and no other name. A stop may still lose some of them, or the file.
pub record IsDraft (fs : Fs) (name file : List ℕ) : Type 0 where
  pub object : ℕ
  pub owner : IsOwner fs name object
  pub bytes : (fs.objects object).bytes ≡ file

-- The file has these bytes whatever a stop leaves of it, and no other name. A stop may still lose the file.
pub record IsReady (fs : Fs) (name bytes : List ℕ) : Type 0 where
  pub object : ℕ
  pub owner : IsOwner fs name object
  pub sure : (left : List ℕ) → MayHold (fs.objects object) left → left ≡ bytes
