use Rattle.std.proofs.Common.{ap₂, sym, ◌∙◌}
use Rattle.std.specs.Prelude.{Bool, ◌&&◌}
use Rattle.pt_reach.proofs.Membership.{between_true}
use Rattle.pt_reach.proofs.atoms.inside.Goals as goal

pub returns : goal.returns
returns g c = λ v value.
    c.in_ok-set.ensures v ∙ ap₂ (λ (a b : Bool). a && b) (c.in_ok-from.ensures v value) (c.in_ok-up_to.ensures v value) ∙ sym (between_true _ _ _)
