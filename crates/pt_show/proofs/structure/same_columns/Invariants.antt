use Rattle.std.proofs.Common.{◌≡◌, drop}
use Rattle.std.specs.Cmp.Lexicographic.{pointwise}
use Rattle.pt_show.specs.Structure.{same_column}
use Rattle.pt_show.proofs.structure.same_columns.Given as goal

abbrev pub invariant-loop-i : goal.invariant-loop-i
invariant-loop-i l = pointwise same_column (drop l.i l.a) (drop l.i l.b) ≡ pointwise same_column l.a l.b
