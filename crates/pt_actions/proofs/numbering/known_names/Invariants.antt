use Rattle.std.proofs.Common.{◌≡◌, take}
use Rattle.pt_place.specs.Checks.{part_names}
use Rattle.pt_actions.proofs.numbering.known_names.Given as goal

abbrev pub invariant-loop-part : goal.invariant-loop-part
invariant-loop-part l = l.names ≡ part_names (take l.part-index l.parts)
