use Rattle.std.proofs.Common.{◌≡◌, take}
use Rattle.pt_exchanged.specs.Exchanged.{rows_elsewhere}
use Rattle.pt_exchanged.proofs.rows.rows_elsewhere.Given as goal

abbrev pub invariant-loop-row : goal.invariant-loop-row
invariant-loop-row l = l.kept ≡ rows_elsewhere l.def l.spot (take l.row-index l.rows)
