use Rattle.std.proofs.Common.{◌≡◌, ◌++◌, map, take}
use Rattle.std.specs.Prelude.{codes}
use Rattle.pt_show.specs.Show.{joined, part_shown}
use Rattle.pt_show.proofs.show.show_part_lines.Given as goal

abbrev pub invariant-loop-i : goal.invariant-loop-i
invariant-loop-i l = l.out.items ≡ l.initial.out.items ++ joined (codes ",\n ") (map (part_shown l.main) (take l.i l.items))
