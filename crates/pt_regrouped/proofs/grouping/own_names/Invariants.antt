use Rattle.std.proofs.Common.{◌≡◌, take}
use Rattle.pt_regrouped.specs.Regrouped.{own_names}
use Rattle.pt_regrouped.proofs.grouping.own_names.Given as goal

abbrev pub invariant-loop-part : goal.invariant-loop-part
invariant-loop-part l = l.names ≡ own_names (take l.part-index l.parts)
