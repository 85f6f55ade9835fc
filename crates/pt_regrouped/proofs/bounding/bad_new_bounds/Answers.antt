use Rattle.std.proofs.Common.{◌≡◌, ◌∙◌, ap, subst}
use Rattle.std.specs.Prelude.{IfOk}
use Rattle.pt_place.specs.Checks.{bad_bounds}
use Rattle.pt_regrouped.specs.NewParts.{parts_among}
use Rattle.pt_regrouped.proofs.Bare.{bounds_bare}
use Rattle.pt_regrouped.proofs.bounding.bad_new_bounds.Goals as goal

pub returns : goal.returns
returns c =
    let all = parts_among c.args.def.now c.args.front.now c.args.items.now c.args.behind.now in
    subst (λ told. IfOk c.bounds_refusal.result (λ refusal. refusal ≡ told))
    (ap (bad_bounds c.args.def.now.by) (c.items.ensures ∙ c.in_ok-parts.ensures) ∙ bounds_bare all c.args.def.now.by) c.bounds_refusal.ensures
