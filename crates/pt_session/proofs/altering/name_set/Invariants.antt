use Rattle.std.proofs.Common.{◌≡◌, ℕ, List, take}
use Rattle.pt_session.specs.Opening.{has}
use Rattle.pt_session.specs.Shaping.{is_listed}
use Rattle.pt_session.proofs.altering.name_set.Given as goal

abbrev pub invariant-loop-name : goal.invariant-loop-name
invariant-loop-name l = (file : List ℕ) → has l.set file ≡ is_listed (take l.name-index l.names) file
