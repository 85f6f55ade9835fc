use Rattle.std.proofs.Common.{length}
use Rattle.pt_token.specs.Splitting.{IsReady}
use Rattle.pt_reading_cases.proofs.cutting.put_pieces.Given as goal

abbrev pub invariant-loop-rest : goal.invariant-loop-rest
invariant-loop-rest l = IsReady l.splitter

abbrev pub decreases-loop-rest : goal.decreases-loop-rest
decreases-loop-rest l = length l.rest
