use Rattle.std.proofs.Common.{◌≡◌, drop}
use Rattle.pt_place.specs.First.{first_in}
use Rattle.pt_place.specs.Lacking.{lacks_primary}
use Rattle.pt_place.proofs.keys.lacking_primary.Given as goal

abbrev pub invariant-loop-key : goal.invariant-loop-key
invariant-loop-key l = first_in (lacks_primary l.def) (drop l.key-index l.keys) ≡ first_in (lacks_primary l.def) l.keys
