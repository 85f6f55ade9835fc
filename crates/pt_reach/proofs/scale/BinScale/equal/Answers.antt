use Rattle.std.proofs.Common.{◌≡◌, ap, sym, ◌∙◌, inl, inr, false}
use Rattle.std.specs.Ordering.{is_eq}
use Rattle.pt_interval.specs.Spans.{has}
use Rattle.pt_interval.specs.Instances.{bytes_cmp}
use Rattle.pt_reach.specs.Scales.{bytes_order}
use Rattle.pt_reach.proofs.Orders.{bytes_day, bytes_null, bytes_number}
use Rattle.pt_reach.proofs.scale.BinScale.equal.Goals as goal

pub returns-in-Null : goal.returns-in-Null
returns-in-Null c = λ v value.
    let none : has bytes_cmp c.none.result v ≡ false = ap (λ set. has bytes_cmp set v) c.none.ensures in
    elim c.in-Null.is [
      | inl e ↦ rw e (none ∙ sym (ap is_eq (bytes_null v)))
      | inr more ↦ elim more [
        | inl h ↦ rw h.1 (none ∙ sym (ap is_eq (bytes_number v _)))
        | inr h ↦ rw h.1 (none ∙ sym (ap is_eq (bytes_day v _)))
      ]
    ]

pub returns-in_ok-set-in-Bytes : goal.returns-in_ok-set-in-Bytes
returns-in_ok-set-in-Bytes c = λ v value. rw c.in-Bytes.is (c.in_ok-set-in-Bytes.ensures v value ∙ ap is_eq (sym (bytes_order v _)))
