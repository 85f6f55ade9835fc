use Rattle.pt_db.specs.Sound.{IsSound}
use Rattle.pt_engine_cases.proofs.model.push_stages.Given as goal

abbrev pub invariant-loop-i : goal.invariant-loop-i
invariant-loop-i l = IsSound l.db
