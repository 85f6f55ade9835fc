use Rattle.std.proofs.Common.{◌≡◌, drop}
use Rattle.pt_place.specs.First.{first_in}
use Rattle.pt_actions.specs.Named.{no_part}
use Rattle.pt_actions.proofs.naming.unknown_part.Given as goal

abbrev pub invariant-loop-name : goal.invariant-loop-name
invariant-loop-name l = first_in (no_part l.parts) (drop l.name-index l.names) ≡ first_in (no_part l.parts) l.names
