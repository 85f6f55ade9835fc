use Rattle.std.proofs.Common.{◌≡◌}
use Rattle.pt_memhost.specs.Names.{named}
use Rattle.pt_memhost.proofs.Places.{places_from}
use Rattle.pt_memhost.proofs.start.places.Given as goal

abbrev pub invariant-loop-place : goal.invariant-loop-place
invariant-loop-place l = named l.names ≡ places_from l.place l.files
