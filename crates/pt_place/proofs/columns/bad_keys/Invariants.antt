use Rattle.std.proofs.Common.{◌≡◌, take, drop}
use Rattle.pt_place.specs.First.{in_turn, in_turn_from}
use Rattle.pt_place.specs.Valid.{bad_key}
use Rattle.pt_place.proofs.columns.bad_keys.Given as goal

abbrev pub invariant-loop-at : goal.invariant-loop-at
invariant-loop-at l = in_turn_from (bad_key l.columns) (take l.at l.keys) (drop l.at l.keys) ≡ in_turn (bad_key l.columns) l.keys
