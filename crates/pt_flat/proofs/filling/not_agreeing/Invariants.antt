use Rattle.std.proofs.Common.{◌≡◌, not, take}
use Rattle.std.specs.List.{filter}
use Rattle.pt_ast.specs.Keys.{agrees}
use Rattle.pt_flat.proofs.filling.not_agreeing.Given as goal

abbrev pub invariant-loop-row : goal.invariant-loop-row
invariant-loop-row l = l.kept ≡ filter (λ row. not (agrees l.def l.cells row.cells)) (take l.row-index l.rows)
