use Rattle.std.proofs.Common.{◌≡◌, ◌++◌, map, take}
use Rattle.pt_session.specs.Shaping.{goes}
use Rattle.pt_session.proofs.shaping.add_deletes.Given as goal

abbrev pub invariant-loop-name : goal.invariant-loop-name
invariant-loop-name l = l.acts ≡ l.initial.acts ++ map goes (take l.name-index l.names)
