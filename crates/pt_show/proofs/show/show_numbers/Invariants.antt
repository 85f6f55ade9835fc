use Rattle.std.proofs.Common.{◌≡◌, ◌++◌, map, take}
use Rattle.std.specs.Prelude.{codes}
use Rattle.pt_show.specs.Show.{joined, quoted}
use Rattle.pt_defs.specs.Reading.{name_of}
use Rattle.pt_show.proofs.show.show_numbers.Given as goal

abbrev pub invariant-loop-i : goal.invariant-loop-i
invariant-loop-i l = l.out.items ≡ l.initial.out.items ++ joined (codes ",") (map (λ number. quoted (name_of l.columns number)) (take l.i l.items))
