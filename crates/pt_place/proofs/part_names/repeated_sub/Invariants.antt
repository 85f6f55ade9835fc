use Rattle.std.proofs.Common.{◌≡◌, ◌++◌, ◌∷◌, [], take, drop}
use Rattle.pt_place.specs.First.{in_turn_from}
use Rattle.pt_place.specs.Checks.{name_twice, part_names}
use Rattle.pt_place.proofs.part_names.repeated_sub.Given as goal

abbrev pub invariant-loop-at : goal.invariant-loop-at
invariant-loop-at l = in_turn_from name_twice (part_names l.earlier ++ l.own ∷ [] ++ take l.at l.subs) (drop l.at l.subs) ≡ in_turn_from name_twice (part_names l.earlier ++ l.own ∷ []) l.subs
