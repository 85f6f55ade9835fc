-- A disk that a stop may interrupt: file objects, the names they have, and what a stop may leave of them.
--
--     1. Between two syncs of a file each written range is loose: after a stop it may hold any bytes.
--     2. After a stop the file's length is any length that it had since its last sync, or since its creation.
--     3. Bytes outside loose ranges stay.
--     4. A sync that succeeds makes the present bytes and length sure.
--     5. Create, rename and unlink are each atomic. A stop keeps a prefix of those since the last sync of names.
--     6. A file keeps its bytes and its loose ranges through a rename. Syncing a file doesn't sync its name.
--     7. At rest nothing is loose and nothing is pending. A run starts on such a directory.
use Rattle.std.specs.Prelude.{◌≡◌, ℕ, ◌+◌, ◌<◌, ◌≤◌, max, Bool, false, cond, ◌&&◌, ◌||◌, ◌==◌, nat_le, nat_lt, List, [], ◌∷◌, ◌++◌, length, take, drop, slice_index, Option, Some, None}
use Rattle.std.specs.Str.{bytes_eq}
use Rattle.std.specs.Option.{option_map}

-- A file: its bytes as they are read, the length that it had at its last sync (or 0, since its creation), and the
-- ranges (from, to) that were written since then. A length only grows, and a write passes each length on its way, so
-- from `least` to the present one it has had them all.
pub record Object : Type 0 where
  pub bytes : List ℕ
  pub least : ℕ
  pub loose : List (ℕ × ℕ)

abbrev pub is_loose : List (ℕ × ℕ) → ℕ → Bool
is_loose [] place = false
is_loose (range ∷ ranges) place = (nat_le range.0 place && nat_lt place range.1) || is_loose ranges place

-- after a stop the file may hold these bytes: of any length it has had, and the present bytes outside the loose ranges
pub record MayHold (object : Object) (bytes : List ℕ) : Type 0 where
  pub least : object.least ≤ length bytes
  pub most : length bytes ≤ length object.bytes
  pub sure : (place : ℕ) → place < length bytes → is_loose object.loose place ≡ false → slice_index bytes place ≡ slice_index object.bytes place

abbrev pub empty_object : Object
empty_object = record { bytes = []; least = 0; loose = [] }

-- these bytes, with others written over them from a place on
abbrev pub overwrite : ℕ → List ℕ → List ℕ → List ℕ
overwrite at bytes file = take at file ++ bytes ++ drop (at + length bytes) file

-- A write leaves its range loose.
abbrev pub written : ℕ → List ℕ → Object → Object
written at bytes object = record {
  bytes = overwrite at bytes object.bytes;
  least = object.least;
  loose = (at, at + length bytes) ∷ object.loose;
}

-- A write that failed leaves its range loose too, with any bytes in it.
abbrev pub torn : ℕ → ℕ → List ℕ → Object → Object
torn at count bytes object = record { bytes = bytes; least = object.least; loose = (at, at + count) ∷ object.loose }

-- The bytes differ in this range alone, and the length is any from the old one to the end of the range.
pub record Torn (at count : ℕ) (old new : List ℕ) : Type 0 where
  pub before : take at new ≡ take at old
  pub after : drop (at + count) new ≡ drop (at + count) old
  pub no_shorter : length old ≤ length new
  pub no_longer : length new ≤ max (length old) (at + count)

-- A sync makes the present bytes and the present length sure.
abbrev pub synced : Object → Object
synced object = record { bytes = object.bytes; least = length object.bytes; loose = [] }

-- which object a name has
abbrev pub Names : Type 0
Names = List ℕ → Option ℕ

-- files by name
abbrev pub Files : Type 0
Files = List ℕ → Option (List ℕ)

-- a map with one name changed
abbrev pub put : {X : Type 0} → (List ℕ → Option X) → List ℕ → Option X → List ℕ → Option X
put names name to query = cond (bytes_eq name query) to (names query)

pub data NameOp : Type 0 where
  Create : List ℕ → ℕ → NameOp
  Rename : List ℕ → List ℕ → NameOp
  Unlink : List ℕ → NameOp

-- what `from` had is `to`'s, where there is such a name
abbrev pub moved : {X : Type 0} → (List ℕ → Option X) → List ℕ → List ℕ → Option X → List ℕ → Option X
moved names from to None = names
moved names from to (Some x) = put (put names from None) to (Some x)

abbrev pub after_op : NameOp → Names → Names
after_op (Create name object) names = put names name (Some object)
after_op (Rename from to) names = moved names from to (names from)
after_op (Unlink name) names = put names name None

abbrev pub names_after : List NameOp → Names → Names
names_after [] names = names
names_after (op ∷ ops) names = names_after ops (after_op op names)

-- A stop keeps a prefix of the pending name operations. (Not an abbrev: no proof but that of three lemmas opens it.)
unfoldable pub Survives : List NameOp → List NameOp → Type 0
Survives pending kept = (lost : List NameOp) × (pending ≡ kept ++ lost)

pub record Fs : Type 0 where
  -- the objects by number, those below `made`
  pub objects : ℕ → Object
  pub made : ℕ
  -- the names as of the last sync of names, and the name operations since
  pub names : Names
  pub pending : List NameOp

abbrev pub present : Fs → Names
present fs = names_after fs.pending fs.names

-- the files as they are read
abbrev pub shown : Fs → Files
shown fs name = option_map (λ object. (fs.objects object).bytes) (present fs name)

abbrev pub MayBe : (ℕ → Object) → Option ℕ → Option (List ℕ) → Type 0
MayBe objects None None = Unit {0}
MayBe objects (Some object) (Some bytes) = MayHold (objects object) bytes
MayBe objects None (Some bytes) = ⊥
MayBe objects (Some object) None = ⊥

-- with these names, a stop may leave these files
abbrev pub AreFiles : (ℕ → Object) → Names → Files → Type 0
AreFiles objects names files = (name : List ℕ) → MayBe objects (names name) (files name)

-- A stop may leave these files.
pub record IsImage (fs : Fs) (files : Files) : Type 0 where
  pub kept : List NameOp
  pub survives : Survives fs.pending kept
  pub files_are : AreFiles fs.objects (names_after kept fs.names) files

-- Each image has P.
abbrev pub EachImage : Fs → (Files → Type 0) → Type 0
EachImage fs P = (files : Files) → IsImage fs files → P files

-- one object is changed
abbrev pub with_object : ℕ → (Object → Object) → Fs → Fs
with_object object change fs = record fs { objects = λ i. cond (i == object) (change (fs.objects object)) (fs.objects i) }

-- the file of that name is changed
abbrev pub on_file : Option ℕ → (Object → Object) → Fs → Fs
on_file None change fs = fs
on_file (Some object) change fs = with_object object change fs

-- one more name operation is pending
abbrev pub with_op : NameOp → Fs → Fs
with_op op fs = record fs { pending = fs.pending ++ op ∷ [] }

-- an empty file with that name
abbrev pub created : List ℕ → Fs → Fs
created name fs = record {
  objects = λ i. cond (i == fs.made) empty_object (fs.objects i);
  made = fs.made + 1;
  names = fs.names;
  pending = fs.pending ++ Create name fs.made ∷ [];
}

-- no name operation is pending
abbrev pub names_synced : Fs → Fs
names_synced fs = record { objects = fs.objects; made = fs.made; names = present fs; pending = [] }

-- The files stand at rest: no name operation is pending, and each content is sure.
pub record IsAtRest (fs : Fs) : Type 0 where
  pub settled : fs.pending ≡ []
  pub whole : (object : ℕ) → length (fs.objects object).bytes ≤ (fs.objects object).least
  pub firm : (object : ℕ) → (fs.objects object).loose ≡ []

-- What holds at every moment: names have objects that were made, no object has two names, whatever a stop keeps.
pub record IsSound (fs : Fs) : Type 0 where
  pub bound : (kept : List NameOp) → Survives fs.pending kept → (name : List ℕ) (object : ℕ) → names_after kept fs.names name ≡ Some object → object < fs.made
  pub once : (kept : List NameOp) → Survives fs.pending kept → (a b : List ℕ) (object : ℕ) → names_after kept fs.names a ≡ Some object → names_after kept fs.names b ≡ Some object → a ≡ b
  pub least : (object : ℕ) → (fs.objects object).least ≤ length (fs.objects object).bytes
