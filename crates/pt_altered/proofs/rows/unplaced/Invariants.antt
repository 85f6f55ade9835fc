use Rattle.std.proofs.Common.{◌≡◌, ◌+◌, drop}
use Rattle.pt_altered.specs.Altered.{unplaced_from}
use Rattle.pt_altered.proofs.rows.unplaced.Given as goal

abbrev pub invariant-loop-i : goal.invariant-loop-i
invariant-loop-i l = unplaced_from 1 l.def l.rows ≡ unplaced_from (l.i + 1) l.def (drop l.i l.rows)
