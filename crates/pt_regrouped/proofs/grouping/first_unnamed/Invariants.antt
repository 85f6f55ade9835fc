use Rattle.std.proofs.Common.{◌≡◌, ◌+◌, drop}
use Rattle.std.specs.List.{prefix_len}
use Rattle.pt_regrouped.specs.Regrouped.{is_named}
use Rattle.pt_regrouped.proofs.grouping.first_unnamed.Given as goal

abbrev pub invariant-loop-at : goal.invariant-loop-at
invariant-loop-at l = l.at + prefix_len (is_named l.names) (drop l.at l.parts) ≡ prefix_len (is_named l.names) l.parts
