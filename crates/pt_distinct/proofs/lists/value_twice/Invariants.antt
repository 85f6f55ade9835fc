use Rattle.std.proofs.Common.{◌≡◌, ℕ, ◌<◌, false, take}
use Rattle.std.specs.BTreeSet as set
use Rattle.pt_ast.specs.Bounds.{tuple_cmp}
use Rattle.pt_ast.specs.Lists.{entries, is_list_fault}
use Rattle.pt_distinct.specs.Tuples.{AreTuples}
use Rattle.pt_distinct.proofs.lists.value_twice.Given as goal

abbrev pub invariant-loop-at : goal.invariant-loop-at
invariant-loop-at l =
    AreTuples (λ tuple. set.contains tuple_cmp l.seen tuple) (entries (take l.at l.parts))
    × ((k : ℕ) → k < l.at → is_list_fault l.parts k ≡ false)
