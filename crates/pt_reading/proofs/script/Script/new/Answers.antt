use Rattle.std.proofs.Common.{refl}
use Rattle.pt_reading.proofs.TakingLemmas.{taken_none}
use Rattle.pt_reading.proofs.script.Script.new.Goals as goal

pub returns-clause-taken : goal.returns-clause-taken
returns-clause-taken c = taken_none _ c.new.ensures c.new-2.ensures.piece refl
