use Rattle.std.proofs.Common.{◌≡◌, take}
use Rattle.pt_regrouped.proofs.grouping.names_listed.Given as goal

abbrev pub invariant-loop-name : goal.invariant-loop-name
invariant-loop-name l = l.names ≡ take l.name-index l.listed
