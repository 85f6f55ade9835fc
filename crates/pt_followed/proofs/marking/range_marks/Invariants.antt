use Rattle.std.proofs.Common.{map}
use Rattle.pt_ast.specs.Ranges.{bound_of}
use Rattle.pt_followed.specs.Marks.{AreMarked}
use Rattle.pt_followed.specs.Steps.{IsMet}
use Rattle.pt_followed.proofs.marking.range_marks.Given as goal

abbrev pub invariant-loop-at : goal.invariant-loop-at
invariant-loop-at l = AreMarked l.at (IsMet l.sets (map bound_of l.parts)) l.marks.items
