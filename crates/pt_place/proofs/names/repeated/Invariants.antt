use Rattle.std.proofs.Common.{◌≡◌, take, drop}
use Rattle.pt_place.specs.Checks.{twice}
use Rattle.pt_place.specs.First.{in_turn, in_turn_from}
use Rattle.pt_place.specs.Names.{names_at}
use Rattle.pt_place.proofs.names.repeated.Given as goal

abbrev pub invariant-loop-at : goal.invariant-loop-at
invariant-loop-at l =
    in_turn_from twice (names_at l.columns (take l.at l.numbers)) (names_at l.columns (drop l.at l.numbers)) ≡ in_turn twice (names_at l.columns l.numbers)
