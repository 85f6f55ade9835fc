-- The names of a disk in memory.
use Rattle.std.specs.Prelude.{◌≡◌, ℕ, ◌+◌, ◌-◌, Bool, ◌&&◌, nat_le, nat_lt, List, map, reverse}
use Rattle.std.specs.BTreeMap.{BTreeMap, get}
use Rattle.std.specs.Cmp.Lexicographic.{slice_cmp}
use Rattle.std.specs.Ordering.{nat_cmp}
use Rattle.pt_host.specs.Disk.{Names, NameOp, Create, Rename, Unlink, names_after}
use Rattle.pt_memhost.specs.declared.names.NameChange.{NameChange}
use Rattle.pt_memhost.specs.declared.names.NameChange.TheVariants.{Made, Moved, Gone}

-- what a map from names to objects says
abbrev pub named : BTreeMap (List ℕ) ℕ → Names
named names name = get (slice_cmp nat_cmp) names name

-- the name operation that a change is
abbrev pub op_of : NameChange → NameOp
op_of (Made name object) = Create name object
op_of (Moved from to) = Rename from to
op_of (Gone name) = Unlink name

-- ranges kept as a place and a count, the newest last, as the disk model lists them
abbrev pub ranges_of : List (ℕ × ℕ) → List (ℕ × ℕ)
ranges_of kept = reverse (map (λ range. (range.0, range.0 + range.1)) kept)

-- a place is in a range that is kept so
abbrev pub is_in : ℕ → ℕ × ℕ → Bool
is_in place range = nat_le range.0 place && nat_lt (place - range.0) range.1

-- The names are what the pending changes lead to from those that are settled.
abbrev pub IsSeen : BTreeMap (List ℕ) ℕ → List NameChange → Names → Type 0
IsSeen names pending settled = named names ≡ names_after (map op_of pending) settled
