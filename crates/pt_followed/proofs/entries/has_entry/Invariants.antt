use Rattle.std.proofs.Common.{◌≡◌, drop}
use Rattle.pt_followed.specs.Steps.{has_entry}
use Rattle.pt_followed.proofs.entries.has_entry.Given as goal

abbrev pub invariant-loop-at : goal.invariant-loop-at
invariant-loop-at l = has_entry (drop l.at l.sets) (drop l.at l.entry) ≡ has_entry l.sets l.entry
