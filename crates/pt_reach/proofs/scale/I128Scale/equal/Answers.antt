use Rattle.std.proofs.Common.{◌≡◌, ap, sym, ◌∙◌, inl, inr, rules, false, SFits}
use Rattle.std.specs.Int.{w128}
use Rattle.std.specs.Ordering.{int_cmp, is_eq}
use Rattle.std.proofs.lemmas.Int.{to_z-of_z}
use Rattle.pt_interval.specs.Spans.{has}
use Rattle.pt_reach.specs.Scales.{number_order}
use Rattle.pt_reach.proofs.Orders.{number_bytes, number_day, number_null}
use Rattle.pt_reach.proofs.scale.I128Scale.equal.Goals as goal

pub returns-in_ok-set-in-Wide : goal.returns-in_ok-set-in-Wide
returns-in_ok-set-in-Wide c = λ v value.
    let fits : SFits w128 c.in-Wide.number = search rules in
    rw c.in-Wide.is (c.in_ok-set-in-Wide.ensures v value ∙ ap (λ z. is_eq (int_cmp v z)) (to_z-of_z w128 c.in-Wide.number fits) ∙ ap is_eq (sym (number_order v c.in-Wide.number)))

pub returns-in-Null : goal.returns-in-Null
returns-in-Null c = λ v value.
    let none : has int_cmp c.none.result v ≡ false = ap (λ set. has int_cmp set v) c.none.ensures in
    elim c.in-Null.is [
      | inl e ↦ rw e (none ∙ sym (ap is_eq (number_null v)))
      | inr more ↦ elim more [
        | inl h ↦ rw h.1 (none ∙ sym (ap is_eq (number_day v _)))
        | inr h ↦ rw h.1 (none ∙ sym (ap is_eq (number_bytes v _)))
      ]
    ]
