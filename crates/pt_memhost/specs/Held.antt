-- The file system that a disk in memory holds.
use Rattle.std.specs.Prelude.{◌≡◌, ℕ, List, length, map, Option, slice_index_or, slice_get}
use Rattle.pt_host.specs.Disk.{Fs, Names, Object, empty_object}
use Rattle.pt_host.specs.World.{IsListing}
use Rattle.pt_memhost.specs.declared.disk.Disk.{Disk}
use Rattle.pt_memhost.specs.declared.names.NameChange.{NameChange}
use Rattle.pt_memhost.specs.Names.{named, op_of}

abbrev pub fs_with : List Object → Names → List NameChange → Fs
fs_with objects settled pending = record {
  objects = λ i. slice_index_or objects i empty_object;
  made = length objects;
  names = settled;
  pending = map op_of pending;
}

abbrev pub fs_of : Disk → Fs
fs_of disk = fs_with disk.objects.items (named disk.settled) disk.pending.items

-- the i-th name in rising byte order, or none where there are at most i
abbrev pub IsNameAt : Fs → ℕ → Option (List ℕ) → Type 0
IsNameAt fs i name = (names : List (List ℕ)) × IsListing fs names × (slice_get names i ≡ name)
