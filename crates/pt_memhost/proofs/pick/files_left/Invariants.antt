use Rattle.std.proofs.Common.{◌≡◌, map}
use Rattle.std.specs.Prelude.{slice_index_or}
use Rattle.std.specs.Map.Iter.{deref_pair}
use Rattle.pt_host.specs.Disk.{empty_object}
use Rattle.pt_memhost.specs.Pick.{left_by}
use Rattle.pt_memhost.proofs.pick.files_left.Given as goal

abbrev pub invariant-loop-name : goal.invariant-loop-name
invariant-loop-name l = l.files ≡ map (λ entry. (entry.0, left_by l.rest (slice_index_or l.objects entry.1 empty_object))) (map deref_pair l.yielded)
