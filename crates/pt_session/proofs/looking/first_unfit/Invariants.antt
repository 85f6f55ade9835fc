use Rattle.std.proofs.Common.{take}
use Rattle.pt_session.specs.Looking.{AreSeen}
use Rattle.pt_session.proofs.looking.first_unfit.Given as goal

abbrev pub invariant-loop-row : goal.invariant-loop-row
invariant-loop-row l = AreSeen l.next l.def l.spot l.bytes (take l.row-index l.rows) l.first
