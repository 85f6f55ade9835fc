use Rattle.std.proofs.Common.{◌≡◌, ◌+◌, drop}
use Rattle.std.specs.List.{position_or_len}
use Rattle.pt_regrouped.specs.Regrouped.{is_named}
use Rattle.pt_regrouped.proofs.grouping.first_named.Given as goal

abbrev pub invariant-loop-at : goal.invariant-loop-at
invariant-loop-at l = l.at + position_or_len (is_named l.names) (drop l.at l.parts) ≡ position_or_len (is_named l.names) l.parts
