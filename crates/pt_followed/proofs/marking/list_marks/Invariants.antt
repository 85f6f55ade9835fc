use Rattle.pt_followed.specs.Marks.{AreMarked}
use Rattle.pt_followed.specs.Steps.{IsListed}
use Rattle.pt_followed.proofs.marking.list_marks.Given as goal

abbrev pub invariant-loop-at : goal.invariant-loop-at
invariant-loop-at l = AreMarked l.at (IsListed l.sets l.parts) l.marks.items
