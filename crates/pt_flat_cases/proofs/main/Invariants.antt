use Rattle.pt_db.specs.Sound.{IsSound}
use Rattle.pt_flat_cases.proofs.main.Given as goal

abbrev pub invariant-loop-line : goal.invariant-loop-line
invariant-loop-line l = IsSound l.db
