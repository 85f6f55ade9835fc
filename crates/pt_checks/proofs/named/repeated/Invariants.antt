use Rattle.std.proofs.Common.{◌≡◌, take, drop}
use Rattle.pt_place.specs.Checks.{twice}
use Rattle.pt_place.specs.First.{in_turn, in_turn_from}
use Rattle.pt_checks.proofs.named.repeated.Given as goal

abbrev pub invariant-loop-at : goal.invariant-loop-at
invariant-loop-at l = in_turn_from twice (take l.at l.names) (drop l.at l.names) ≡ in_turn twice l.names
