use Rattle.pt_flat.proofs.Renewing.{IsUpdated}
use Rattle.pt_flat.proofs.updating.update_rows.Given as goal

abbrev pub invariant-loop-at : goal.invariant-loop-at
invariant-loop-at l = IsUpdated l.def l.parts l.assigns l.taken l.fn.start l.updating l.at
