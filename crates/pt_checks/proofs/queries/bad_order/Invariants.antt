use Rattle.std.proofs.Common.{◌≡◌, drop}
use Rattle.pt_place.specs.First.{first_in}
use Rattle.pt_checks.specs.Queries.{bad_by}
use Rattle.pt_checks.proofs.queries.bad_order.Given as goal

abbrev pub invariant-loop-name : goal.invariant-loop-name
invariant-loop-name l = first_in (bad_by l.columns) (drop l.name-index l.name-items) ≡ first_in (bad_by l.columns) l.order
