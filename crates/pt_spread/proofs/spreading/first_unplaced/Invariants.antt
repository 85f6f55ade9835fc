use Rattle.std.proofs.Common.{◌≡◌, ◌+◌, drop}
use Rattle.std.specs.List.{position_from}
use Rattle.pt_spread.specs.Spread.{is_unplaced}
use Rattle.pt_spread.proofs.spreading.first_unplaced.Given as goal

abbrev pub invariant-loop-i : goal.invariant-loop-i
invariant-loop-i l = position_from (is_unplaced l.def) (l.i + 1) (drop l.i l.rows) ≡ position_from (is_unplaced l.def) 1 l.rows
