use Rattle.std.proofs.Common.{◌≡◌, Some, take}
use Rattle.pt_altered.specs.Altered.{rows_in}
use Rattle.pt_altered.proofs.rows.rows_in.Given as goal

abbrev pub invariant-loop-row : goal.invariant-loop-row
invariant-loop-row l = l.kept ≡ rows_in (Some l.names) l.def (take l.row-index l.rows)
