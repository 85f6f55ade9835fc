use Rattle.std.proofs.Common.{◌≡◌, map, take}
use Rattle.pt_update.specs.Changes.{delete_of}
use Rattle.pt_update.proofs.deleting.deletes_of.Given as goal

abbrev pub invariant-loop-row : goal.invariant-loop-row
invariant-loop-row l = l.deletes ≡ map (delete_of l.def) (take l.row-index l.rows)
