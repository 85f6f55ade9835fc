use Rattle.std.proofs.Common.{◌≡◌, ◌++◌, drop}
use Rattle.pt_db.specs.Rows.{with_row}
use Rattle.pt_exchanged.specs.Exchanged.{left}
use Rattle.pt_exchanged.proofs.rows.with_row.Given as goal

abbrev pub invariant-loop-other : goal.invariant-loop-other
invariant-loop-other l = l.made ++ left l.waits l.row (drop l.other-index l.rows) ≡ with_row l.row l.rows
