use Rattle.std.proofs.Common.{◌≡◌, drop}
use Rattle.pt_place.specs.Checks.{part_names}
use Rattle.pt_place.specs.Names.{is_among}
use Rattle.pt_exchanged.proofs.checking.is_part_name.Given as goal

abbrev pub invariant-loop-part : goal.invariant-loop-part
invariant-loop-part l = is_among l.name (part_names (drop l.part-index l.parts)) ≡ is_among l.name (part_names l.parts)
