use Rattle.std.proofs.Common.{◌≡◌, ◌+◌, drop}
use Rattle.pt_exchanged.specs.Exchanged.{misplaced_from}
use Rattle.pt_exchanged.proofs.rows.misplaced.Given as goal

abbrev pub invariant-loop-i : goal.invariant-loop-i
invariant-loop-i l = misplaced_from 1 l.def l.spot l.rows ≡ misplaced_from (l.i + 1) l.def l.spot (drop l.i l.rows)
