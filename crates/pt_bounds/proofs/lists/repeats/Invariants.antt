use Rattle.std.proofs.Common.{◌≡◌, ◌++◌, take, drop}
use Rattle.pt_ast.specs.Lists.{entries, repeats}
use Rattle.pt_bounds.proofs.lists.repeats.Given as goal

abbrev pub invariant-loop-at : goal.invariant-loop-at
invariant-loop-at l = repeats (entries l.earlier) l.tuples ≡ repeats (entries l.earlier ++ take l.at l.tuples) (drop l.at l.tuples)
