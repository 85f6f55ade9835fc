use Rattle.std.proofs.Common.{◌↔◌, drop}
use Rattle.pt_session.specs.Looking.{AreTaken}
use Rattle.pt_session.proofs.looking.are_taken.Given as goal

abbrev pub invariant-loop-at : goal.invariant-loop-at
invariant-loop-at l = AreTaken (drop l.at l.columns) (drop l.at l.cells) ↔ AreTaken l.columns l.cells
