use Rattle.std.proofs.Common.{◌≡◌, take, drop}
use Rattle.pt_place.specs.First.{in_turn, in_turn_from}
use Rattle.pt_place.specs.Checks.{name_twice, part_names}
use Rattle.pt_place.proofs.part_names.repeated_name.Given as goal

abbrev pub invariant-loop-at : goal.invariant-loop-at
invariant-loop-at l = in_turn_from name_twice (part_names (take l.at l.parts)) (part_names (drop l.at l.parts)) ≡ in_turn name_twice (part_names l.parts)
