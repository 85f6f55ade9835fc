use Rattle.std.proofs.Common.{◌≡◌, drop}
use Rattle.pt_written.specs.Complete.{other_written_subs}
use Rattle.pt_place.specs.First.{first_in}
use Rattle.pt_written.proofs.written_counts.other_subs.Given as goal

abbrev pub invariant-loop-part : goal.invariant-loop-part
invariant-loop-part l = first_in (other_written_subs l.spec) (drop l.part-index l.parts) ≡ first_in (other_written_subs l.spec) l.parts
