use Rattle.std.proofs.Common.{length}
use Rattle.pt_rowfile.specs.Kept.{rows_in}
use Rattle.pt_rowfile.specs.SoFar.{IsSoFar}
use Rattle.pt_rowfile.proofs.rows.rows_of.Given as goal

abbrev pub invariant-loop-source : goal.invariant-loop-source
invariant-loop-source l = IsSoFar l.bytes l.source (rows_in l.rows.entries)

abbrev pub decreases-loop-source : goal.decreases-loop-source
decreases-loop-source l = length l.source
