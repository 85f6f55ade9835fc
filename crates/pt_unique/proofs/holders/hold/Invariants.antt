use Rattle.std.proofs.Common.{◌≡◌, ◌≤◌, Some, length, vec_len}
use Rattle.indexmap.specs.IndexMap.{get, spare}
use Rattle.pt_unique.specs.Book.{mark_eq}
use Rattle.pt_unique.specs.Holders.{held_by}
use Rattle.pt_unique.proofs.Marks.{Mark}
use Rattle.pt_unique.proofs.holders.hold.Given as goal

abbrev pub invariant-loop-mark : goal.invariant-loop-mark
invariant-loop-mark l = record {
  held : (mark : Mark) → held_by l.rest.items (Some l.serial) (λ m. get mark_eq l.holders m) mark ≡ held_by l.initial.rest.items (Some l.serial) (λ m. get mark_eq l.initial.holders m) mark;
  room : length l.rest.items ≤ spare l.holders;
}

abbrev pub decreases-loop-mark : goal.decreases-loop-mark
decreases-loop-mark l = vec_len l.rest
