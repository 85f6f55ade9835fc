use Rattle.std.proofs.Common.{◌≡◌, drop}
use Rattle.pt_place.specs.First.{first_in}
use Rattle.pt_regrouped.specs.Regrouped.{no_part}
use Rattle.pt_regrouped.proofs.grouping.first_unknown.Given as goal

abbrev pub invariant-loop-name : goal.invariant-loop-name
invariant-loop-name l = first_in (no_part l.known) (drop l.name-index l.names) ≡ first_in (no_part l.known) l.names
