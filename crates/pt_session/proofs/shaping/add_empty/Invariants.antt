use Rattle.std.proofs.Common.{◌≡◌, ◌++◌, [], map, take}
use Rattle.pt_session.proofs.shaping.add_empty.Given as goal

abbrev pub invariant-loop-name : goal.invariant-loop-name
invariant-loop-name l = l.files ≡ l.initial.files ++ map (λ name. (name, [])) (take l.name-index l.names)
