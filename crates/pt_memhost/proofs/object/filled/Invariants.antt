use Rattle.std.proofs.Common.{◌≡◌, take}
use Rattle.pt_memhost.specs.Names.{ranges_of}
use Rattle.pt_memhost.specs.Pick.{filled}
use Rattle.pt_memhost.proofs.object.filled.Given as goal

abbrev pub invariant-loop-place : goal.invariant-loop-place
invariant-loop-place l = l.left ≡ filled l.fill (ranges_of l.loose) 0 (take l.place l.bytes)
