-- Lists of files, each with its name.
use Rattle.std.specs.Prelude.{ℕ, List, [], ◌∷◌, Some, None, cond, map}
use Rattle.std.specs.Str.{bytes_eq}
use Rattle.std.specs.Cmp.Lexicographic.{slice_cmp}
use Rattle.std.specs.Ordering.{nat_cmp}
use Rattle.std.specs.List.Sorted.{IsStrictlySortedBy}
use Rattle.pt_host.specs.Disk.{Files}

-- files with their names; a `FileList` of the code is seen as one
abbrev pub FileList : Type 0
FileList = List (List ℕ × List ℕ)

-- their names rise in byte order, each once
abbrev pub AreRising : FileList → Type 0
AreRising files = IsStrictlySortedBy (slice_cmp nat_cmp) (map (λ f. f.0) files)

-- the files by name
abbrev pub by_name : FileList → Files
by_name [] query = None
by_name (file ∷ files) query = cond (bytes_eq file.0 query) (Some file.1) (by_name files query)
