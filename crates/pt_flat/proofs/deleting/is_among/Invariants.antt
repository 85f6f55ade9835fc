use Rattle.std.proofs.Common.{◌≡◌, drop}
use Rattle.std.specs.List.{list_any}
use Rattle.pt_db.specs.Rows.{is_numbered}
use Rattle.pt_flat.proofs.deleting.is_among.Given as goal

abbrev pub invariant-loop-row : goal.invariant-loop-row
invariant-loop-row l = list_any (is_numbered l.serial) (drop l.row-index l.rows) ≡ list_any (is_numbered l.serial) l.rows
