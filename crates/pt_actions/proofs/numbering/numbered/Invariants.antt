use Rattle.pt_actions.proofs.More.{AreNumbered}
use Rattle.pt_actions.proofs.numbering.numbered.Given as goal

abbrev pub invariant-loop-i : goal.invariant-loop-i
invariant-loop-i l = AreNumbered l.before l.more l.i l.known l.all
