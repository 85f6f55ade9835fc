use Rattle.std.proofs.Common.{◌≡◌, take, drop}
use Rattle.pt_place.specs.First.{in_turn, in_turn_from}
use Rattle.pt_place.specs.Valid.{bad_column}
use Rattle.pt_place.proofs.columns.bad_columns.Given as goal

abbrev pub invariant-loop-at : goal.invariant-loop-at
invariant-loop-at l = in_turn_from (bad_column l.keys) (take l.at l.columns) (drop l.at l.columns) ≡ in_turn (bad_column l.keys) l.columns
