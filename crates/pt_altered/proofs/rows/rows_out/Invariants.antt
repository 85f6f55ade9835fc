use Rattle.std.proofs.Common.{◌≡◌, Some, take}
use Rattle.pt_altered.specs.Altered.{rows_out}
use Rattle.pt_altered.proofs.rows.rows_out.Given as goal

abbrev pub invariant-loop-row : goal.invariant-loop-row
invariant-loop-row l = l.kept ≡ rows_out (Some l.names) l.def (take l.row-index l.rows)
