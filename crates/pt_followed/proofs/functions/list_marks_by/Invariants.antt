use Rattle.std.proofs.Common.{Some}
use Rattle.pt_followed.specs.Marks.{AreMarked}
use Rattle.pt_followed.specs.Steps.{IsListedBy, come_to}
use Rattle.pt_followed.proofs.functions.list_marks_by.Given as goal

abbrev pub invariant-loop-at : goal.invariant-loop-at
invariant-loop-at l = AreMarked l.at (IsListedBy (come_to (Some l.func)) l.set l.parts) l.marks.items
