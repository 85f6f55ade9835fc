use Rattle.std.proofs.Common.{take}
use Rattle.indexmap.specs.IndexMap.{get}
use Rattle.pt_unique.specs.Book.{mark_eq}
use Rattle.pt_unique.specs.Holders.{IsLeast}
use Rattle.pt_unique.proofs.holders.least_holder.Given as goal

abbrev pub invariant-loop-mark : goal.invariant-loop-mark
invariant-loop-mark l = IsLeast (λ mark. get mark_eq l.holders mark) (take l.mark-index l.marks) l.least
