use Rattle.std.proofs.Common.{◌≡◌, ◌&&◌, drop, not}
use Rattle.std.specs.List.{list_any}
use Rattle.pt_ast.specs.Keys.{agrees}
use Rattle.pt_db.specs.Rows.{is_numbered}
use Rattle.pt_flat.proofs.keys.another_agrees.Given as goal

abbrev pub invariant-loop-row : goal.invariant-loop-row
invariant-loop-row l =
    list_any (λ row. not (is_numbered l.serial row) && agrees l.def l.cells row.cells) (drop l.row-index l.rows)
    ≡ list_any (λ row. not (is_numbered l.serial row) && agrees l.def l.cells row.cells) l.rows
