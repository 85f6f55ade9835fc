use Rattle.std.proofs.Common.{◌≡◌, ◌++◌, map, take}
use Rattle.std.specs.Prelude.{codes}
use Rattle.pt_show.specs.Show.{joined, sub_line}
use Rattle.pt_show.proofs.show.show_sub_lines.Given as goal

abbrev pub invariant-loop-i : goal.invariant-loop-i
invariant-loop-i l = l.out.items ≡ l.initial.out.items ++ joined (codes ",\n  ") (map sub_line (take l.i l.items))
