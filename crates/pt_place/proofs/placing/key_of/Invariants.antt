use Rattle.std.proofs.Common.{◌≡◌, drop, fold}
use Rattle.pt_value.specs.Hashes.{key_of, key_step}
use Rattle.pt_ast.specs.Bounds.{cells_at}
use Rattle.pt_place.proofs.placing.key_of.Given as goal

abbrev pub invariant-loop-number : goal.invariant-loop-number
invariant-loop-number l = fold key_step l.key (cells_at l.cells (drop l.number-index l.number-items)) ≡ key_of (cells_at l.cells l.numbers)
