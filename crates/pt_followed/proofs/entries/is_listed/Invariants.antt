use Rattle.std.proofs.Common.{◌≡◌, drop}
use Rattle.std.specs.List.{list_any}
use Rattle.pt_followed.specs.Steps.{has_entry, is_listed}
use Rattle.pt_followed.proofs.entries.is_listed.Given as goal

abbrev pub invariant-loop-entry : goal.invariant-loop-entry
invariant-loop-entry l = list_any (has_entry l.sets) (drop l.entry-index l.entry-items) ≡ is_listed l.sets l.part
