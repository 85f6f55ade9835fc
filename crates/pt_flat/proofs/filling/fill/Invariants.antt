use Rattle.pt_flat.proofs.Growing.{IsFilled}
use Rattle.pt_flat.proofs.filling.fill.Given as goal

abbrev pub invariant-loop-at : goal.invariant-loop-at
invariant-loop-at l = IsFilled l.mode l.def l.new l.rows l.fn.start l.filling l.at
