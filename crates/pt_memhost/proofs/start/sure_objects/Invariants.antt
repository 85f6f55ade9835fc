use Rattle.std.proofs.Common.{◌≡◌, map, take}
use Rattle.pt_memhost.specs.Story.{sure_object}
use Rattle.pt_memhost.proofs.start.sure_objects.Given as goal

abbrev pub invariant-loop-bytes : goal.invariant-loop-bytes
invariant-loop-bytes l = l.objects.items ≡ map (λ file. sure_object file.1) (take l.bytes-index l.files)
