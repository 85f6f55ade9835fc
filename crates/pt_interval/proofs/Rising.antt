-- Spans that rise, and one more behind them.
use Rattle.std.proofs.Common.{◌≡◌, Bool, true, false, not, ◌&&◌, ◌||◌, List, [], ◌∷◌, ◌++◌, length, take, drop, get_or, ℕ, zero, suc, ◌+◌, ◌<◌, arith, refl, sym, ap, ◌∙◌, subst, Option, if◌then◌else◌}
use Rattle.std.specs.declared.cmp.Ordering.{Ordering}
use Rattle.std.specs.declared.cmp.Ordering.TheVariants.{Less}
use Rattle.std.specs.Cmp.{IsTotalOrder}
use Rattle.std.proofs.lemmas.Bool.{false≢true, and_parts, not-true, or_left}
use Rattle.std.proofs.lemmas.List.{drop_more, take-append-drop, take_more}
use Rattle.pt_interval.specs.Line.{at_most, is_past, IsEnd}
use Rattle.pt_interval.specs.Spans.{has, is_within, IsRisingFrom, IsSpan}
use Rattle.pt_interval.specs.Steps.{and_span, end_of}
use Rattle.pt_interval.specs.declared.span.Span.{Span}
use Rattle.pt_interval.proofs.Order.{before_end, before_past, less, past_more}
use Rattle.pt_interval.proofs.Tables.{or_assoc, or_false, or_rest}

module _ {T : Type 0} {cmp : T → T → Ordering} (order : IsTotalOrder cmp) where
  -- what is in the spans isn't below them
  pub has_past : (is_value : T → Bool) (low : Option T) (spans : List (Span T)) (v : T) → IsRisingFrom cmp is_value low spans → has cmp spans v ≡ true → is_past cmp v low ≡ true
  has_past is_value low [] v rises h = absurd (false≢true h)
  has_past is_value low (span ∷ rest) v rises h = by (is_within cmp span v) refl (has_past is_value span.to rest v rises.2)
    where
      by : (b : Bool) → is_within cmp span v ≡ b → (has cmp rest v ≡ true → is_past cmp v span.to ≡ true) → is_past cmp v low ≡ true
      by true e behind = past_more order span.from v low (and_parts _ _ e).0 rises.0
      by false e behind = past_more order span.from v low (before_end order span.from v span.to rises.1.has_one (behind (or_rest _ _ e h))) rises.0

  -- without the first span
  pub rises_later : (is_value : T → Bool) (low : Option T) (span : Span T) (rest : List (Span T)) → IsRisingFrom cmp is_value low (span ∷ rest) → IsRisingFrom cmp is_value low rest
  rises_later is_value low span [] rises = tt
  rises_later is_value low span (next ∷ rest) rises =
      (past_more order span.from next.from low (before_end order span.from next.from span.to rises.1.has_one rises.2.0) rises.0, rises.2.1, rises.2.2)

  pub rises_push : (is_value : T → Bool) (low : Option T) (spans : List (Span T)) (span : Span T) → IsRisingFrom cmp is_value low spans
      → is_past cmp span.from (end_of low spans) ≡ true → IsSpan cmp is_value span → IsRisingFrom cmp is_value low (spans ++ span ∷ [])
  rises_push is_value low [] span rises past fine = (past, fine, tt)
  rises_push is_value low (first ∷ rest) span rises past fine = (rises.0, rises.1, rises_push is_value first.to rest span rises.2 past fine)

  -- what is in earlier spans is below what is in later ones
  pub has_below : (is_value : T → Bool) (low : Option T) (front rest : List (Span T)) (v w : T) → IsRisingFrom cmp is_value low (front ++ rest)
      → has cmp front v ≡ true → has cmp rest w ≡ true → cmp v w ≡ Less
  has_below is_value low [] rest v w rises h k = absurd (false≢true h)
  has_below is_value low (span ∷ front) rest v w rises h k = by (is_within cmp span v) refl (has_below is_value span.to front rest v w rises.2)
    where
      later : (front : List (Span T)) → (has cmp (front ++ rest) w ≡ true)
      later [] = k
      later (first ∷ more) = or_second (is_within cmp first w) (later more)
        where
          or_second : (a : Bool) {b : Bool} → b ≡ true → (a || b) ≡ true
          or_second true e = refl
          or_second false e = e

      by : (b : Bool) → is_within cmp span v ≡ b → (has cmp front v ≡ true → has cmp rest w ≡ true → cmp v w ≡ Less) → cmp v w ≡ Less
      by true e behind =
          less order v w (before_past order v w span.to (not-true _ (and_parts _ _ e).1) (has_past is_value span.to (front ++ rest) w rises.2 (later front)))
      by false e behind = behind (or_rest _ _ e h) k

pub has-push : {T : Type 0} (cmp : T → T → Ordering) (spans : List (Span T)) (span : Span T) (v : T) → has cmp (spans ++ span ∷ []) v ≡ (has cmp spans v || is_within cmp span v)
has-push cmp [] span v = or_false (is_within cmp span v)
has-push cmp (first ∷ rest) span v = ap (λ b. is_within cmp first v || b) (has-push cmp rest span v) ∙ sym (or_assoc (is_within cmp first v) (has cmp rest v) (is_within cmp span v))

pub end_of-push : {T : Type 0} (low : Option T) (spans : List (Span T)) (span : Span T) → end_of low (spans ++ span ∷ []) ≡ span.to
end_of-push low [] span = refl
end_of-push low (first ∷ rest) span = end_of-push first.to rest span

module _ {T : Type 0} {cmp : T → T → Ordering} (order : IsTotalOrder cmp) where
  -- an empty span has no value
  pub none_within : (span : Span T) (v : T) → is_past cmp span.from span.to ≡ true → is_within cmp span v ≡ false
  none_within span v empty = by (at_most cmp span.from v) refl
    where
      by : (b : Bool) → at_most cmp span.from v ≡ b → (b && not (is_past cmp v span.to)) ≡ false
      by true e = ap not (past_more order span.from v span.to e empty)
      by false e = refl

  pub has-and_span : (spans : List (Span T)) (span : Span T) (v : T) → has cmp (and_span cmp spans span) v ≡ (has cmp spans v || is_within cmp span v)
  has-and_span spans span v = by (is_past cmp span.from span.to) refl
    where
      by : (b : Bool) → is_past cmp span.from span.to ≡ b → has cmp (if b then spans else spans ++ span ∷ []) v ≡ (has cmp spans v || is_within cmp span v)
      by true e = sym (or_false (has cmp spans v)) ∙ ap (λ b. has cmp spans v || b) (sym (none_within span v e))
      by false e = has-push cmp spans span v

  pub rises-and_span : (is_value : T → Bool) (low : Option T) (spans : List (Span T)) (span : Span T) → IsRisingFrom cmp is_value low spans → is_past cmp span.from (end_of low spans) ≡ true
      → is_value span.from ≡ true → IsEnd is_value span.to → IsRisingFrom cmp is_value low (and_span cmp spans span)
  rises-and_span is_value low spans span rises past from_in to_in = by (is_past cmp span.from span.to) refl
    where
      by : (b : Bool) → is_past cmp span.from span.to ≡ b → IsRisingFrom cmp is_value low (if b then spans else spans ++ span ∷ [])
      by true e = rises
      by false e = rises_push order is_value low spans span rises past (record { from_in = from_in; to_in = to_in; has_one = e })

  pub past-and_span : (low : Option T) (spans : List (Span T)) (span : Span T) (v : T) → is_past cmp v (end_of low spans) ≡ true → is_past cmp v span.to ≡ true
      → is_past cmp v (end_of low (and_span cmp spans span)) ≡ true
  past-and_span low spans span v past behind = by (is_past cmp span.from span.to) refl
    where
      by : (b : Bool) → is_past cmp span.from span.to ≡ b → is_past cmp v (end_of low (if b then spans else spans ++ span ∷ [])) ≡ true
      by true e = past
      by false e = ap (is_past cmp v) (end_of-push low spans span) ∙ behind

-- ---- at a place of a list

pub split_at : {A : Type 0} (xs : List A) (i : ℕ) (x : A) → i < length xs → x ≡ get_or xs i x → xs ≡ take i xs ++ x ∷ drop (i + 1) xs
split_at xs i x within e = sym (take-append-drop i xs) ∙ ap (λ rest. take i xs ++ rest) (drop_more xs i x within ∙ ap (λ y. y ∷ drop (i + 1) xs) (sym e))

pub is_span_at : {T : Type 0} (cmp : T → T → Ordering) (is_value : T → Bool) (low : Option T) (spans : List (Span T)) (i : ℕ) (span : Span T) → IsRisingFrom cmp is_value low spans
    → i < length spans → span ≡ get_or spans i span → IsSpan cmp is_value span
is_span_at cmp is_value low [] i span rises within e = absurd (omega (arith, within))
is_span_at cmp is_value low (first ∷ rest) zero span rises within e = subst (IsSpan cmp is_value) (sym e) rises.1
is_span_at cmp is_value low (first ∷ rest) (suc i) span rises within e = is_span_at cmp is_value first.to rest i span rises.2 (omega (arith, within)) e

pub has-take : {T : Type 0} (cmp : T → T → Ordering) (spans : List (Span T)) (i : ℕ) (span : Span T) (v : T) → i < length spans → span ≡ get_or spans i span
    → has cmp (take (i + 1) spans) v ≡ (has cmp (take i spans) v || is_within cmp span v)
has-take cmp spans i span v within e =
    ap (λ xs. has cmp xs v) (take_more spans i span within ∙ ap (λ s. take i spans ++ s ∷ []) (sym e)) ∙ has-push cmp (take i spans) span v

module _ {T : Type 0} {cmp : T → T → Ordering} (order : IsTotalOrder cmp) where
  pub below_at : (is_value : T → Bool) (low : Option T) (spans : List (Span T)) (i : ℕ) (span : Span T) → IsRisingFrom cmp is_value low spans → i < length spans → span ≡ get_or spans i span
      → (v w : T) → has cmp (take i spans) v ≡ true → is_within cmp span w ≡ true → cmp v w ≡ Less
  below_at is_value low spans i span rises within e v w h k =
      has_below order is_value low (take i spans) (span ∷ drop (i + 1) spans) v w (subst (IsRisingFrom cmp is_value low) (split_at spans i span within e) rises) h (or_left _ (has cmp (drop (i + 1) spans) w) k)
