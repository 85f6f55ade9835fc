use Rattle.std.proofs.Common.{◌≡◌, drop}
use Rattle.pt_show.specs.Structure.{same_keys}
use Rattle.pt_show.proofs.structure.same_keys.Given as goal

abbrev pub invariant-loop-key : goal.invariant-loop-key
invariant-loop-key l = same_keys l.wanted (drop l.key-index l.a) (drop l.at l.b) ≡ same_keys l.wanted l.a l.b
