use Rattle.pt_regrouped.proofs.Beside.{AreAdded}
use Rattle.pt_regrouped.proofs.naming.put_old.Given as goal

abbrev pub invariant-loop-part : goal.invariant-loop-part
invariant-loop-part l = AreAdded l.initial.parts l.old l.part-index l.names l.parts
