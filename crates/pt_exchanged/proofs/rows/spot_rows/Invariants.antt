use Rattle.std.proofs.Common.{◌≡◌, take}
use Rattle.pt_db.specs.Rows.{spot_rows}
use Rattle.pt_exchanged.proofs.rows.spot_rows.Given as goal

abbrev pub invariant-loop-row : goal.invariant-loop-row
invariant-loop-row l = l.kept ≡ spot_rows l.def l.spot (take l.row-index l.rows)
