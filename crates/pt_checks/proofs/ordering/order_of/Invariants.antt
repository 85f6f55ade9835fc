use Rattle.std.proofs.Common.{◌≡◌, ◌++◌, drop}
use Rattle.std.specs.List.{filter_map}
use Rattle.pt_checks.specs.Wanted.{by_of, order_of}
use Rattle.pt_checks.proofs.ordering.order_of.Given as goal

abbrev pub invariant-loop-name : goal.invariant-loop-name
invariant-loop-name l = l.found ++ filter_map (by_of l.columns) (drop l.name-index l.name-items) ≡ order_of l.columns l.order
