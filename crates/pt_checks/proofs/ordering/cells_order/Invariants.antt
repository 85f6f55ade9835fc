use Rattle.std.proofs.Common.{◌≡◌, drop}
use Rattle.pt_checks.specs.Wanted.{cells_cmp}
use Rattle.pt_checks.proofs.ordering.cells_order.Given as goal

abbrev pub invariant-loop-by : goal.invariant-loop-by
invariant-loop-by l = cells_cmp (drop l.by-index l.order) l.a l.b ≡ cells_cmp l.order l.a l.b
