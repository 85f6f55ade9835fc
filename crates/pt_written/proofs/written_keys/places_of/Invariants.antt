use Rattle.std.proofs.Common.{◌≡◌, take}
use Rattle.pt_written.specs.Written.{places_of}
use Rattle.pt_written.proofs.written_keys.places_of.Given as goal

abbrev pub invariant-loop-name : goal.invariant-loop-name
invariant-loop-name l = l.places ≡ places_of l.columns (take l.name-index l.names)
