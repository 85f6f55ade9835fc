use Rattle.std.proofs.Common.{ap₂, sym, ◌∙◌}
use Rattle.std.specs.Prelude.{Bool, ◌||◌}
use Rattle.pt_reach.proofs.Membership.{apart_true}
use Rattle.pt_reach.proofs.atoms.apart.Goals as goal

pub returns : goal.returns
returns g c = λ v value.
    c.in_ok-set.ensures v value ∙ ap₂ (λ (a b : Bool). a || b) (c.in_ok-below.ensures v value) (c.in_ok-above.ensures v value) ∙ sym (apart_true _ _ _)
