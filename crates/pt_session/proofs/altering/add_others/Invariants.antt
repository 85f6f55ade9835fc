use Rattle.std.proofs.Common.{◌≡◌, ◌++◌, not, map, take}
use Rattle.std.specs.List.{filter}
use Rattle.pt_session.specs.Opening.{has}
use Rattle.pt_session.specs.Shaping.{goes}
use Rattle.pt_session.proofs.altering.add_others.Given as goal

abbrev pub invariant-loop-name : goal.invariant-loop-name
invariant-loop-name l = l.acts ≡ l.initial.acts ++ map goes (filter (λ name. not (has l.stay name)) (take l.name-index l.names))
