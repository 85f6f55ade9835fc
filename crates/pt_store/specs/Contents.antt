-- The files of a map in memory, as the code has them.
use Rattle.std.specs.Prelude.{ℕ, List}
use Rattle.std.specs.BTreeMap.{BTreeMap, get}
use Rattle.std.specs.Cmp.Lexicographic.{slice_cmp}
use Rattle.std.specs.Ordering.{nat_cmp}
use Rattle.pt_host.specs.Disk.{Files}

-- a tree from names to bytes, read by name
abbrev pub files_in : BTreeMap (List ℕ) (List ℕ) → Files
files_in contents query = get (slice_cmp nat_cmp) contents query
