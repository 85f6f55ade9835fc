use Rattle.pt_db.specs.Sound.{IsSound}
use Rattle.pt_engine_cases.proofs.model.replies_to.Given as goal

abbrev pub invariant-loop-i : goal.invariant-loop-i
invariant-loop-i l = IsSound l.db
