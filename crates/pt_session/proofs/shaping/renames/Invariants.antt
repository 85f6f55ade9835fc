use Rattle.std.proofs.Common.{◌≡◌, ℕ, List, map, take}
use Rattle.pt_session.specs.Shaping.{comes}
use Rattle.pt_session.proofs.shaping.renames.Given as goal

abbrev pub invariant-loop-name : goal.invariant-loop-name
invariant-loop-name l = l.acts ≡ map (λ (file : List ℕ × List ℕ). comes file.0) (take l.name-index l.name-items)
