-- What an append asks, and what it makes of a map.
use Rattle.std.specs.Prelude.{◌≢◌, ℕ, ◌<◌, ◌^◌, List, [], ◌++◌, length, map, cond, All, AllPairs, IsSome}
use Rattle.std.specs.List.{flat_map}
use Rattle.std.specs.Option.{option_map}
use Rattle.std.specs.Str.{bytes_eq}
use Rattle.pt_host.specs.Disk.{Files}
use Rattle.pt_host.specs.Listed.{FileList}
use Rattle.pt_store.specs.Entries.{length_in}

-- what a batch adds to the file of a name
abbrev pub added_to : FileList → List ℕ → List ℕ
added_to batch query = flat_map (λ part. cond (bytes_eq part.0 query) part.1 []) batch

-- each file with what the batch adds to it at its end
abbrev pub appended : FileList → FileList → FileList
appended batch files = map (λ file. (file.0, file.1 ++ added_to batch file.0)) files

-- the same of files by name
abbrev pub added : FileList → Files → Files
added batch files query = option_map (λ bytes. bytes ++ added_to batch query) (files query)

-- The names of the batch are distinct and held, and fewer than 2^32.
pub record IsBatch (sizes : List (List ℕ × ℕ)) (batch : FileList) : Type 0 where
  pub distinct : AllPairs (λ a b. a.0 ≢ b.0) batch
  pub held : All (λ part. IsSome (length_in sizes part.0)) batch
  pub few : length batch < 2 ^ 32
