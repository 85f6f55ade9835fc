use Rattle.std.proofs.Common.{◌≡◌, ℕ, List, map, take}
use Rattle.pt_store.specs.Store.{sizes}
use Rattle.pt_session.specs.Shaping.{renews}
use Rattle.pt_session.proofs.altering.renewals.Given as goal

abbrev pub invariant-loop-name : goal.invariant-loop-name
invariant-loop-name l = l.acts ≡ map (λ (file : List ℕ × List ℕ). renews (sizes l.session.store) file.0) (take l.name-index l.name-items)
