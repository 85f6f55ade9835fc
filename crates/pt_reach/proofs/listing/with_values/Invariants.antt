use Rattle.std.proofs.Common.{◌≡◌, ◌++◌, map, take}
use Rattle.pt_reach.specs.Reaching.{nulls}
use Rattle.pt_reach.proofs.listing.with_values.Given as goal

abbrev pub invariant-loop-value : goal.invariant-loop-value
invariant-loop-value g l = l.values.items ≡ nulls l.null ++ map g.T.Scale.value (take l.value-index l.own)
