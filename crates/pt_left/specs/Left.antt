-- What a directory stands for: the map that `whole.map` spells, with a `serials.cnt` in it.
use Rattle.std.specs.Prelude.{◌≡◌, ◌≢◌, ◌⊎◌, ℕ, List, [], ◌∷◌, Option, Some, None, codes}
use Rattle.std.specs.declared.cmp.Ordering.{Ordering}
use Rattle.std.specs.declared.cmp.Ordering.TheVariants.{Less, Equal, Greater}
use Rattle.std.specs.Cmp.Lexicographic.{slice_cmp}
use Rattle.std.specs.Ordering.{nat_cmp}
use Rattle.pt_host.specs.Listed.{FileList}
use Rattle.pt_host.specs.Disk.{Fs, Files}
use Rattle.pt_host.specs.Images.{Follows}
use Rattle.pt_left.specs.Spelling.{Spells}

-- the file that a map stands in
abbrev pub whole_name : List ℕ
whole_name = codes "whole.map"

-- the shadow by which it is replaced
abbrev pub shadow_name : List ℕ
shadow_name = codes "whole.map.new"

-- the file that each map has
abbrev pub serials_name : List ℕ
serials_name = codes "serials.cnt"

-- a file, whose name stands so to `serials.cnt`, before others, and what becomes of the others where it is less
abbrev pub placed : Ordering → List ℕ × List ℕ → FileList → FileList → FileList
placed Less file files rest = file ∷ rest
placed Equal file files rest = file ∷ files
placed Greater file files rest = (serials_name, []) ∷ file ∷ files

-- The map with an empty `serials.cnt` in its place, where it has none.
unfoldable pub with_serials : FileList → FileList
with_serials [] = (serials_name, []) ∷ []
with_serials (file ∷ files) = placed (slice_cmp nat_cmp file.0 serials_name) file files (with_serials files)

-- The map that `whole.map` spells, where it is missing or has these bytes. A missing one spells the empty map.
abbrev pub SpelledIn : Option (List ℕ) → FileList → Type 0
SpelledIn None map = map ≡ []
SpelledIn (Some bytes) map = Spells bytes map

-- `whole.map`, missing or with these bytes, gives this map.
pub record GivesMap (whole : Option (List ℕ)) (map : FileList) : Type 0 where
  pub spelled : FileList
  pub is : SpelledIn whole spelled
  pub complete : map ≡ with_serials spelled

-- A directory stands for this map. All its other files mean nothing.
abbrev pub Left : Files → FileList → Type 0
Left files map = GivesMap (files whole_name) map

-- the same, with the map first
abbrev pub IsLeft : FileList → Files → Type 0
IsLeft map files = Left files map

-- The directory stands for no map.
abbrev pub NoneLeft : Files → Type 0
NoneLeft files = (map : FileList) → Left files map → ⊥

-- What is named where a directory is damaged: `whole.map`, at its first byte.
abbrev pub IsWhole : List ℕ → ℕ → Type 0
IsWhole name place = (name ≡ whole_name) × (place ≡ 0)

-- the directory stands for one of these two
abbrev pub IsEither : FileList → FileList → Files → Type 0
IsEither old new files = Left files old ⊎ Left files new

-- Two directories differ at the store's own two files alone.
abbrev pub OnlyOwn : Files → Files → Type 0
OnlyOwn before after = (query : List ℕ) → query ≢ whole_name → query ≢ shadow_name → after query ≡ before query

-- an image of before, but for these two
abbrev pub AsBeforeButOwn : Fs → Files → Type 0
AsBeforeButOwn fs after = Follows fs OnlyOwn after
