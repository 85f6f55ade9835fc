-- Maps from file names to bytes, and the one spelling of each.
--
--     map    = number of files, then the files in rising byte order of their names
--     file   = length of the name in one byte, the name, length of the bytes, the bytes
--     number = eight bytes, the lowest first
use Rattle.std.specs.Prelude.{◌≡◌, ℕ, ◌<◌, ◌^◌, List, ◌∷◌, ◌++◌, length, All}
use Rattle.std.specs.List.{flat_map}
use Rattle.pt_bytes.specs.Numbers.{le_bytes}
use Rattle.pt_host.specs.Name.{IsName}
use Rattle.pt_host.specs.Listed.{FileList, AreRising}

unfoldable pub number : ℕ → List ℕ
number n = le_bytes 8 n

unfoldable pub spelled_name : List ℕ → List ℕ
spelled_name name = length name ∷ name

unfoldable pub spelled_bytes : List ℕ → List ℕ
spelled_bytes bytes = number (length bytes) ++ bytes

unfoldable pub spelled_file : List ℕ × List ℕ → List ℕ
spelled_file file = spelled_name file.0 ++ spelled_bytes file.1

unfoldable pub spelling : FileList → List ℕ
spelling files = number (length files) ++ flat_map spelled_file files

-- a file that has a spelling
pub record IsFile (file : List ℕ × List ℕ) : Type 0 where
  pub named : IsName file.0
  pub fits : length file.1 < 2 ^ 64

-- Files in rising byte order of their names, each name once.
pub record IsMap (files : FileList) : Type 0 where
  pub each : All IsFile files
  pub rising : AreRising files

-- These bytes, all of them, spell these files, in any order.
pub record SpellsFiles (bytes : List ℕ) (files : FileList) : Type 0 where
  pub each : All IsFile files
  pub few : length files < 2 ^ 64
  pub spelled : bytes ≡ spelling files

-- These bytes, all of them, spell this map.
pub record Spells (bytes : List ℕ) (files : FileList) : Type 0 where
  pub map : IsMap files
  pub few : length files < 2 ^ 64
  pub spelled : bytes ≡ spelling files
