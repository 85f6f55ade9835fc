use Rattle.std.proofs.Common.{◌≡◌, ◌≤◌, None, take}
use Rattle.indexmap.specs.IndexMap.{get, spare}
use Rattle.pt_unique.specs.Book.{mark_eq}
use Rattle.pt_unique.specs.Holders.{held_by}
use Rattle.pt_unique.proofs.Marks.{Mark}
use Rattle.pt_unique.proofs.holders.let_go.Given as goal

abbrev pub invariant-loop-mark : goal.invariant-loop-mark
invariant-loop-mark l = record {
  held : (mark : Mark) → get mark_eq l.holders mark ≡ held_by (take l.mark-index l.marks) None (λ m. get mark_eq l.initial.holders m) mark;
  room : spare l.initial.holders ≤ spare l.holders;
}
