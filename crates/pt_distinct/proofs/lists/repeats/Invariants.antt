use Rattle.std.proofs.Common.{◌≡◌, ◌++◌, List, take, drop}
use Rattle.std.specs.BTreeSet as set
use Rattle.pt_ast.specs.Bounds.{tuple_cmp}
use Rattle.pt_ast.specs.Lists.{repeats}
use Rattle.pt_ast.specs.declared.table.Bound.{Bound}
use Rattle.pt_distinct.specs.Tuples.{AreTuples}
use Rattle.pt_distinct.proofs.lists.repeats.Given as goal

abbrev pub invariant-loop-tuple : goal.invariant-loop-tuple
invariant-loop-tuple l =
    (before : List (List Bound)) → AreTuples (λ tuple. set.contains tuple_cmp l.initial.seen tuple) before
    → AreTuples (λ tuple. set.contains tuple_cmp l.seen tuple) (before ++ take l.tuple-index l.tuples)
    × (repeats before l.tuples ≡ repeats (before ++ take l.tuple-index l.tuples) (drop l.tuple-index l.tuples))
