use Rattle.std.proofs.Common.{◌≡◌, ◌++◌, drop}
use Rattle.pt_reach.proofs.Filled.{nulls_of}
use Rattle.pt_reach.proofs.following.null_cells.Given as goal

abbrev pub invariant-loop-column : goal.invariant-loop-column
invariant-loop-column l = l.cells ++ nulls_of (drop l.column-index l.columns) ≡ nulls_of l.columns
