use Rattle.std.proofs.Common.{length}
use Rattle.pt_rowfile.specs.OnPlace.{IsOnPlace}
use Rattle.pt_rowfile.proofs.place.put_place.Given as goal

abbrev pub invariant-loop-source : goal.invariant-loop-source
invariant-loop-source l = IsOnPlace l.bytes l.source l.serial l.found

abbrev pub decreases-loop-source : goal.decreases-loop-source
decreases-loop-source l = length l.source
