use Rattle.pt_ddl_log.proofs.Apart.{ApartBelow}
use Rattle.pt_ddl_log.proofs.clean.are_apart.Given as goal

abbrev pub invariant-loop-i : goal.invariant-loop-i
invariant-loop-i l = ApartBelow l.acts l.i
