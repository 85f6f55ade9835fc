use Rattle.pt_checks.proofs.Assigned.{AreMade}
use Rattle.pt_checks.proofs.assigning.assign_all.Given as goal

abbrev pub invariant-loop-at : goal.invariant-loop-at
invariant-loop-at l = AreMade l.columns l.number l.assigns l.fn.start l.made l.at
