use Rattle.std.proofs.Common.{◌≡◌, take}
use Rattle.pt_regrouped.proofs.copying.tuples_copied.Given as goal

abbrev pub invariant-loop-tuple : goal.invariant-loop-tuple
invariant-loop-tuple l = l.copied ≡ take l.tuple-index l.tuple-items
