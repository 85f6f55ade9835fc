-- What a store keeps of each file of its map: the name, the length, and the place of its bytes in `whole.map`.
use Rattle.std.specs.Prelude.{◌≡◌, ℕ, ◌+◌, ◌≤◌, List, [], ◌∷◌, ◌++◌, cond, length, map, take, drop, Option, Some, None, All}
use Rattle.std.specs.List.{AllZip}
use Rattle.std.specs.List.Sorted.{IsStrictlySortedBy}
use Rattle.std.specs.Str.{bytes_eq}
use Rattle.std.specs.Cmp.Lexicographic.{slice_cmp}
use Rattle.std.specs.Ordering.{nat_cmp}
use Rattle.pt_host.specs.Listed.{FileList}
use Rattle.pt_store.specs.declared.entry.Entry.{Entry}
use Rattle.pt_left.specs.Left.{SpelledIn}

-- The entry is this file's, whose bytes stand in these at its place.
pub record IsEntry (bytes : List ℕ) (entry : Entry) (file : List ℕ × List ℕ) : Type 0 where
  pub named : entry.name ≡ file.0
  pub long : entry.length ≡ length file.1
  pub within : entry.place + entry.length ≤ length bytes
  pub here : take entry.length (drop entry.place bytes) ≡ file.1

-- The entries are these files', one for each.
unfoldable pub AreEntries : List ℕ → List Entry → FileList → Type 0
AreEntries bytes entries files = AllZip (IsEntry bytes) entries files

-- Their names rise in byte order, each once.
abbrev pub AreInOrder : List Entry → Type 0
AreInOrder entries = IsStrictlySortedBy (slice_cmp nat_cmp) (map (λ entry. entry.name) entries)

-- Each has its bytes within these.
abbrev pub AreWithin : List ℕ → List Entry → Type 0
AreWithin bytes entries = All (λ entry. entry.place + entry.length ≤ length bytes) entries

-- the files that entries have in these bytes
abbrev pub files_at : List ℕ → List Entry → FileList
files_at bytes entries = map (λ entry. (entry.name, take entry.length (drop entry.place bytes))) entries

-- the name and the length of an entry
abbrev pub size_of : Entry → List ℕ × ℕ
size_of entry = (entry.name, entry.length)

-- the length at a name
abbrev pub length_in : List (List ℕ × ℕ) → List ℕ → Option ℕ
length_in [] query = None
length_in (size ∷ rest) query = cond (bytes_eq size.0 query) (Some size.1) (length_in rest query)

-- What was found at the front of bytes, with the rest of them: a value as it is spelled, or that none is spelled there.
abbrev pub Begins : {X : Type 0} → (X → List ℕ) → (X → Type 0) → List ℕ → Option (X × List ℕ) → Type 0
Begins spelled Is bytes (Some found) = Is found.0 × (bytes ≡ spelled found.0 ++ found.1)
Begins {X} spelled Is bytes None = (x : X) (rest : List ℕ) → Is x → bytes ≡ spelled x ++ rest → ⊥

-- The entries of the files that the bytes spell, or that they spell none.
abbrev pub Parses : (List ℕ → FileList → Type 0) → List ℕ → Option (List Entry) → Type 0
Parses Spell bytes (Some entries) = (files : FileList) × Spell bytes files × AreEntries bytes entries files
Parses Spell bytes None = (files : FileList) → Spell bytes files → ⊥

-- the bytes of a file, none where it is missing
abbrev pub bytes_of : Option (List ℕ) → List ℕ
bytes_of None = []
bytes_of (Some bytes) = bytes

-- The entries are those of the map that `whole.map` spells, where it is missing or has these bytes.
pub record HasEntries (whole : Option (List ℕ)) (entries : List Entry) : Type 0 where
  pub files : FileList
  pub spelled : SpelledIn whole files
  pub are : AreEntries (bytes_of whole) entries files

-- It spells no map.
abbrev pub IsMeaningless : Option (List ℕ) → Type 0
IsMeaningless whole = (files : FileList) → SpelledIn whole files → ⊥
