use Rattle.std.proofs.Common.{◌≡◌, take}
use Rattle.pt_regrouped.proofs.copying.tuple_copied.Given as goal

abbrev pub invariant-loop-bound : goal.invariant-loop-bound
invariant-loop-bound l = l.copied ≡ take l.bound-index l.bound-items
