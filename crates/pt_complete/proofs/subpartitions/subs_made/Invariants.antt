use Rattle.pt_written.specs.WrittenParts.{sub_names}
use Rattle.pt_complete.proofs.Naming.{AreListed}
use Rattle.pt_complete.proofs.subpartitions.subs_made.Given as goal

abbrev pub invariant-loop-number : goal.invariant-loop-number
invariant-loop-number l = AreListed l.initial.names l.part (sub_names l.part l.count) l.number l.names l.subs
