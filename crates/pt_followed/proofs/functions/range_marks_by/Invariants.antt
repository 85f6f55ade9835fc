use Rattle.std.proofs.Common.{map, Some}
use Rattle.pt_ast.specs.Ranges.{bound_of}
use Rattle.pt_followed.specs.Marks.{AreMarked}
use Rattle.pt_followed.specs.Steps.{IsMetBy, come_to}
use Rattle.pt_followed.proofs.functions.range_marks_by.Given as goal

abbrev pub invariant-loop-at : goal.invariant-loop-at
invariant-loop-at l = AreMarked l.at (IsMetBy (come_to (Some l.func)) l.set (map bound_of l.parts)) l.marks.items
