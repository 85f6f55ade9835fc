use Rattle.std.proofs.Common.{◌≡◌, drop}
use Rattle.pt_place.specs.First.{first_in}
use Rattle.pt_place.specs.Valid.{other_subs}
use Rattle.pt_place.proofs.parts.other_subs.Given as goal

abbrev pub invariant-loop-part : goal.invariant-loop-part
invariant-loop-part l = first_in (other_subs l.parts) (drop l.part-index l.parts) ≡ first_in (other_subs l.parts) l.parts
