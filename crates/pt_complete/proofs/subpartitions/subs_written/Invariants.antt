use Rattle.pt_complete.proofs.Naming.{AreListed}
use Rattle.pt_complete.proofs.subpartitions.subs_written.Given as goal

abbrev pub invariant-loop-sub : goal.invariant-loop-sub
invariant-loop-sub l = AreListed l.initial.names l.part l.written l.sub-index l.names l.subs
