use Rattle.std.proofs.Common.{length}
use Rattle.pt_reading.proofs.TakingLemmas.{IsOver}
use Rattle.pt_reading.proofs.script.Script.take.Given as goal

abbrev pub invariant-loop-rest : goal.invariant-loop-rest
invariant-loop-rest l = IsOver l.fn.self l.self l.bytes l.rest

abbrev pub decreases-loop-rest : goal.decreases-loop-rest
decreases-loop-rest l = length l.rest
