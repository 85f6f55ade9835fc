use Rattle.std.proofs.Common.{ap, sym, ◌∙◌, inl, inr, rules, SFits}
use Rattle.std.specs.Int.{w128}
use Rattle.std.specs.Ordering.{int_cmp, is_lt}
use Rattle.std.proofs.lemmas.Int.{to_z-of_z}
use Rattle.pt_interval.specs.Spans.{has}
use Rattle.pt_reach.specs.Scales.{number_order}
use Rattle.pt_reach.proofs.Orders.{number_bytes, number_day, number_null}
use Rattle.pt_reach.proofs.scale.I128Scale.below.Goals as goal

pub returns-in-Null : goal.returns-in-Null
returns-in-Null c = λ v value. rw c.in-Null.is (ap (λ set. has int_cmp set v) c.none.ensures ∙ sym (ap is_lt (number_null v)))

pub returns-in_ok-set-in-Wide : goal.returns-in_ok-set-in-Wide
returns-in_ok-set-in-Wide c = λ v value.
    let fits : SFits w128 c.in-Wide.number = search rules in
    rw c.in-Wide.is (c.in_ok-set-in-Wide.ensures v value ∙ ap (λ z. is_lt (int_cmp v z)) (to_z-of_z w128 c.in-Wide.number fits) ∙ ap is_lt (sym (number_order v c.in-Wide.number)))

pub returns-in_ok-all-in-Day : goal.returns-in_ok-all-in-Day
returns-in_ok-all-in-Day c = λ v value.
    elim c.in-Day.is [
      | inl h ↦ rw h.1 (c.in_ok-all-in-Day.ensures v value ∙ sym (ap is_lt (number_day v _)))
      | inr h ↦ rw h.1 (c.in_ok-all-in-Day.ensures v value ∙ sym (ap is_lt (number_bytes v _)))
    ]
