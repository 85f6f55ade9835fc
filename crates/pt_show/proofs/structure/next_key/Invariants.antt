use Rattle.std.proofs.Common.{◌≡◌, ◌-◌, drop, length}
use Rattle.pt_show.specs.Structure.{columns_of}
use Rattle.pt_show.proofs.structure.next_key.Given as goal

abbrev pub invariant-loop-next : goal.invariant-loop-next
invariant-loop-next l = columns_of l.wanted (drop l.next l.b) ≡ columns_of l.wanted (drop l.at l.b)

abbrev pub decreases-loop-next : goal.decreases-loop-next
decreases-loop-next l = length l.b - l.next
