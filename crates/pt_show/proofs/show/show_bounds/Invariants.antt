use Rattle.std.proofs.Common.{◌≡◌, ◌++◌, map, take}
use Rattle.std.specs.Prelude.{codes}
use Rattle.pt_show.specs.Show.{joined, bound_shown}
use Rattle.pt_show.proofs.show.show_bounds.Given as goal

abbrev pub invariant-loop-i : goal.invariant-loop-i
invariant-loop-i l = l.out.items ≡ l.initial.out.items ++ joined (codes ",") (map bound_shown (take l.i l.items))
