use Rattle.pt_store.proofs.Placed.{AreBefore}
use Rattle.pt_store.proofs.serials.add_serials.Given as goal

abbrev pub invariant-loop-i : goal.invariant-loop-i
invariant-loop-i l = AreBefore l.entry-items l.i
