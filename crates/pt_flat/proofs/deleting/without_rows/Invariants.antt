use Rattle.std.proofs.Common.{◌≡◌, take}
use Rattle.pt_flat.specs.Delete.{without_rows}
use Rattle.pt_flat.proofs.deleting.without_rows.Given as goal

abbrev pub invariant-loop-row : goal.invariant-loop-row
invariant-loop-row l = l.kept ≡ without_rows l.taken (take l.row-index l.rows)
