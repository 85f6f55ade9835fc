use Rattle.std.proofs.Common.{◌≡◌, ◌++◌, map, take}
use Rattle.std.specs.Prelude.{codes}
use Rattle.pt_show.specs.Show.{joined, entry_shown}
use Rattle.pt_show.proofs.show.show_entries.Given as goal

abbrev pub invariant-loop-i : goal.invariant-loop-i
invariant-loop-i l = l.out.items ≡ l.initial.out.items ++ joined (codes ",") (map entry_shown (take l.i l.items))
