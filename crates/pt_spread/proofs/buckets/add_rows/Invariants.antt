use Rattle.std.proofs.Common.{◌≡◌}
use Rattle.pt_spread.specs.Spread.{rows_by_spot}
use Rattle.pt_spread.proofs.buckets.add_rows.Given as goal

abbrev pub invariant-loop-row : goal.invariant-loop-row
invariant-loop-row l = l.found.items ≡ rows_by_spot l.def l.yielded
