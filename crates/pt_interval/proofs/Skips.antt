-- Spans that end before others begin share nothing with those.
use Rattle.std.proofs.Common.{◌≡◌, ℕ, zero, suc, ◌<◌, arith, Bool, true, false, not, ◌&&◌, ◌||◌, List, [], ◌∷◌, length, take, drop, get_or, refl, sym, ap, ◌∙◌, Option, Some}
use Rattle.std.specs.declared.cmp.Ordering.{Ordering}
use Rattle.std.specs.Cmp.{IsTotalOrder}
use Rattle.std.proofs.lemmas.Bool.{and_from, and_parts, and_right}
use Rattle.pt_interval.specs.Line.{at_most, is_past}
use Rattle.pt_interval.specs.Spans.{IsRisingFrom, has, is_within}
use Rattle.pt_interval.specs.Steps.{are_done}
use Rattle.pt_interval.specs.declared.span.Span.{Span}
use Rattle.pt_interval.proofs.Order.{before_end, past_more, reflexive}
use Rattle.pt_interval.proofs.Rising.{has_past, rises_later}

none_and : (x y : Bool) → (x && false) ≡ (y && false)
none_and true true = refl
none_and true false = refl
none_and false true = refl
none_and false false = refl

module _ {T : Type 0} {cmp : T → T → Ordering} (order : IsTotalOrder cmp) where
  -- what isn't below a value isn't in the spans that end by it
  without_done : (from : T) (spans : List (Span T)) (n : ℕ) (v : T) → are_done cmp from (take n spans) ≡ true → at_most cmp from v ≡ true → has cmp (drop n spans) v ≡ has cmp spans v
  without_done from [] zero v done h = refl
  without_done from [] (suc n) v done h = refl
  without_done from (span ∷ spans) zero v done h = refl
  without_done from (span ∷ spans) (suc n) v done h =
      let both = and_parts (is_past cmp from span.to) (are_done cmp from (take n spans)) done in
      let out : is_within cmp span v ≡ false = and_right (at_most cmp span.from v) (not (is_past cmp v span.to)) (ap not (past_more order from v span.to h both.0)) in
      without_done from spans n v both.1 h ∙ ap (λ (t : Bool). t || has cmp spans v) (sym out)

  -- what is in spans isn't below the first of them
  from_first : (is_value : T → Bool) (low : Option T) (spans : List (Span T)) (first : Span T) (v : T) → IsRisingFrom cmp is_value low spans → first ≡ get_or spans 0 first → has cmp spans v ≡ true → at_most cmp first.from v ≡ true
  from_first is_value low [] first v rises is h = has_past order is_value (Some first.from) [] v tt h
  from_first is_value low (span ∷ spans) first v rises is h =
      ap (λ (s : Span T). at_most cmp s.from v) is ∙ has_past order is_value (Some span.from) (span ∷ spans) v (reflexive order span.from, rises.1, rises.2) h

  pub rises_drop : (is_value : T → Bool) (low : Option T) (spans : List (Span T)) (n : ℕ) → IsRisingFrom cmp is_value low spans → IsRisingFrom cmp is_value low (drop n spans)
  rises_drop is_value low [] zero rises = rises
  rises_drop is_value low [] (suc n) rises = rises
  rises_drop is_value low (span ∷ spans) zero rises = rises
  rises_drop is_value low (span ∷ spans) (suc n) rises = rises_drop is_value low spans n (rises_later order is_value low span spans rises)

  -- what they share with others that begin there is all that is shared
  pub shared_on : (is_value : T → Bool) (low : Option T) (a b : List (Span T)) (first : Span T) (n : ℕ) → IsRisingFrom cmp is_value low b → first ≡ get_or b 0 first → are_done cmp first.from (take n a) ≡ true
      → (v : T) → (has cmp (drop n a) v && has cmp b v) ≡ (has cmp a v && has cmp b v)
  shared_on is_value low a b first n rises is done v = by (has cmp b v) refl
    where
      by : (t : Bool) → has cmp b v ≡ t → (has cmp (drop n a) v && t) ≡ (has cmp a v && t)
      by true e = ap (λ (t : Bool). t && true) (without_done first.from a n v done (from_first is_value low b first v rises is e))
      by false e = none_and (has cmp (drop n a) v) (has cmp a v)

  -- spans before one that ends by a value do too
  pub done_up_to : (is_value : T → Bool) (low : Option T) (spans : List (Span T)) (m : ℕ) (span : Span T) (from : T) → IsRisingFrom cmp is_value low spans → m < length spans → span ≡ get_or spans m span
      → is_past cmp from span.to ≡ true → are_done cmp from (take (suc m) spans) ≡ true
  done_up_to is_value low [] m span from rises within is past = absurd (omega (arith, within))
  done_up_to is_value low (x ∷ xs) zero span from rises within is past = and_from (is_past cmp from x.to) true (ap (λ (s : Span T). is_past cmp from s.to) (sym is) ∙ past) refl
  done_up_to is_value low (x ∷ []) (suc m) span from rises within is past = absurd (omega (arith, within))
  done_up_to is_value low (x ∷ y ∷ ys) (suc m) span from rises within is past =
      first_too (done_up_to is_value x.to (y ∷ ys) m span from rises.2 (omega (arith, within)) is past)
    where
      first_too : are_done cmp from (take (suc m) (y ∷ ys)) ≡ true → are_done cmp from (x ∷ take (suc m) (y ∷ ys)) ≡ true
      first_too rest =
          let head = (and_parts (is_past cmp from y.to) (are_done cmp from (take m ys)) rest).0 in
          and_from (is_past cmp from x.to) (are_done cmp from (take (suc m) (y ∷ ys))) (past_more order y.from from x.to (before_end order y.from from y.to rises.2.1.has_one head) rises.2.0) rest
