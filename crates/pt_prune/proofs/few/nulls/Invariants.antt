use Rattle.std.proofs.Common.{◌≡◌, ◌++◌, drop}
use Rattle.pt_reach.proofs.Filled.{nulls_of}
use Rattle.pt_prune.proofs.few.nulls.Given as goal

abbrev pub invariant-loop-column : goal.invariant-loop-column
invariant-loop-column l = l.values.items ++ nulls_of (drop l.column-index l.column-items) ≡ nulls_of l.columns
