use Rattle.std.proofs.Common.{◌≡◌, drop}
use Rattle.pt_ast.specs.Keys.{is_taken}
use Rattle.pt_flat.proofs.keys.is_taken.Given as goal

abbrev pub invariant-loop-row : goal.invariant-loop-row
invariant-loop-row l = is_taken l.def l.cells (drop l.row-index l.rows) ≡ is_taken l.def l.cells l.rows
