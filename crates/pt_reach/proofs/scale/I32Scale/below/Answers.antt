use Rattle.std.proofs.Common.{◌≡◌, ap, sym, ◌∙◌, inl, inr, rules, false, w32, SFits}
use Rattle.std.specs.Ordering.{int_cmp, is_lt}
use Rattle.std.proofs.lemmas.Int.{to_z-of_z}
use Rattle.pt_interval.specs.Spans.{has}
use Rattle.pt_reach.specs.Scales.{day_order}
use Rattle.pt_reach.proofs.Orders.{day_bytes, day_null, day_number}
use Rattle.pt_reach.proofs.scale.I32Scale.below.Goals as goal

pub returns-in-Null : goal.returns-in-Null
returns-in-Null c = λ v value.
    let none : has int_cmp c.none.result v ≡ false = ap (λ set. has int_cmp set v) c.none.ensures in
    elim c.in-Null.is [
      | inl e ↦ rw e (none ∙ sym (ap is_lt (day_null v)))
      | inr h ↦ rw h.1 (none ∙ sym (ap is_lt (day_number v _)))
    ]

pub returns-in_ok-set-in-Day : goal.returns-in_ok-set-in-Day
returns-in_ok-set-in-Day c = λ v value.
    let fits : SFits w32 c.in-Day.day = search rules in
    rw c.in-Day.is (c.in_ok-set-in-Day.ensures v value ∙ ap (λ z. is_lt (int_cmp v z)) (to_z-of_z w32 c.in-Day.day fits) ∙ ap is_lt (sym (day_order v c.in-Day.day)))

pub returns-in_ok-all-in-Bytes : goal.returns-in_ok-all-in-Bytes
returns-in_ok-all-in-Bytes c = λ v value. rw c.in-Bytes.is (c.in_ok-all-in-Bytes.ensures v value ∙ sym (ap is_lt (day_bytes v _)))
