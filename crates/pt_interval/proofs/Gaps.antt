-- What is in no span of a set, gap by gap.
use Rattle.std.proofs.Common.{◌≡◌, ℕ, ◌+◌, ◌<◌, ◌≤◌, length, drop, get_or, subst, Bool, true, not, ◌&&◌, ◌||◌, List, [], ◌∷◌, ◌++◌, refl, sym, ap, ◌∙◌, Option, Some, None}
use Rattle.std.specs.declared.cmp.Ordering.{Ordering}
use Rattle.std.specs.Cmp.{IsTotalOrder}
use Rattle.std.proofs.lemmas.List.{drop_all, drop_more}
use Rattle.pt_interval.specs.Line.{at_most, is_past, IsEnd, IsLine}
use Rattle.pt_interval.specs.Spans.{has, IsRisingFrom}
use Rattle.pt_interval.specs.Steps.{and_span, end_of, gap_before}
use Rattle.pt_interval.specs.declared.span.Span.{Span}
use Rattle.pt_interval.proofs.Order.{before_end, past_more, reflexive}
use Rattle.pt_interval.proofs.Rising.{has-and_span, has-push, has_past, past-and_span, rises-and_span, rises_push}
use Rattle.pt_interval.proofs.Tables.{or_assoc, or_false, outside_bool}

-- `out` so far, then what is from `low` on and in no span of `rest`
pub record IsOutside {T : Type 0} (cmp : T → T → Ordering) (is_value : T → Bool) (least : T) (wanted : T → Bool) (out rest : List (Span T)) (low : T) : Type 0 where
  pub sets : (v : T) → is_value v ≡ true → (has cmp out v || (at_most cmp low v && not (has cmp rest v))) ≡ wanted v
  pub out_rises : IsRisingFrom cmp is_value (Some least) out
  pub rest_rises : IsRisingFrom cmp is_value (Some low) rest
  pub low_in : is_value low ≡ true
  pub past : is_past cmp low (end_of (Some least) out) ≡ true

rest_at : {A : Type 0} (xs : List A) (i : ℕ) (x : A) → i < length xs → x ≡ get_or xs i x → drop i xs ≡ x ∷ drop (i + 1) xs
rest_at xs i x within is = drop_more xs i x within ∙ ap (λ y. y ∷ drop (i + 1) xs) (sym is)

module _ {T : Type 0} {cmp : T → T → Ordering} (order : IsTotalOrder cmp) {is_value : T → Bool} {least : T} {wanted : T → Bool} where
  out_step : (out : List (Span T)) (span : Span T) (rest : List (Span T)) (low : T) → IsOutside cmp is_value least wanted out (span ∷ rest) low → (v : T) → is_value v ≡ true
      → (has cmp (and_span cmp out (gap_before low span)) v || (is_past cmp v span.to && not (has cmp rest v))) ≡ wanted v
  out_step out span rest low state v value =
      let table = outside_bool (at_most cmp low v) (at_most cmp span.from v) (is_past cmp v span.to) (has cmp rest v)
      (λ h. before_end order span.from v span.to state.rest_rises.1.has_one h)
      (λ h. past_more order span.from v (Some low) h state.rest_rises.0)
      (has_past order is_value span.to rest v state.rest_rises.2) in
      ap (λ b. b || (is_past cmp v span.to && not (has cmp rest v))) (has-and_span order out (gap_before low span) v)
      ∙ or_assoc (has cmp out v) (at_most cmp low v && not (at_most cmp span.from v)) (is_past cmp v span.to && not (has cmp rest v))
      ∙ ap (λ b. has cmp out v || b) (sym table)
      ∙ state.sets v value

  out_rises : (out : List (Span T)) (span : Span T) (rest : List (Span T)) (low : T) → IsOutside cmp is_value least wanted out (span ∷ rest) low
      → IsRisingFrom cmp is_value (Some least) (and_span cmp out (gap_before low span))
  out_rises out span rest low state = rises-and_span order is_value (Some least) out (gap_before low span) state.out_rises state.past state.low_in state.rest_rises.1.from_in

  -- on behind a span that ends
  pub outside_next : (out : List (Span T)) (span : Span T) (rest : List (Span T)) (low to : T) → span.to ≡ Some to → IsOutside cmp is_value least wanted out (span ∷ rest) low
      → IsOutside cmp is_value least wanted (and_span cmp out (gap_before low span)) rest to
  outside_next out span rest low to e state = record {
    sets = λ v value. ap (λ end. has cmp (and_span cmp out (gap_before low span)) v || (is_past cmp v end && not (has cmp rest v))) (sym e) ∙ out_step out span rest low state v value;
    out_rises = out_rises out span rest low state;
    rest_rises = subst_end state.rest_rises.2;
    low_in = to_in span.to e state.rest_rises.1.to_in;
    past =
        let before : at_most cmp span.from to ≡ true = before_end order span.from to span.to state.rest_rises.1.has_one (ap (is_past cmp to) e ∙ reflexive order to) in
        past-and_span order (Some least) out (gap_before low span) to
        (past_more order span.from to (end_of (Some least) out) before (past_more order low span.from (end_of (Some least) out) state.rest_rises.0 state.past))
        before;
  }
    where
      subst_end : IsRisingFrom cmp is_value span.to rest → IsRisingFrom cmp is_value (Some to) rest
      subst_end h = rw e at h

      to_in : (end : Option T) → end ≡ Some to → IsEnd is_value end → is_value to ≡ true
      to_in None f h = cc
      to_in (Some last) f h = let g : last ≡ to = cc in ap is_value (sym g) ∙ h

  -- a span without end is the last
  pub outside_ended : (out : List (Span T)) (span : Span T) (rest : List (Span T)) (low : T) → span.to ≡ None → IsOutside cmp is_value least wanted out (span ∷ rest) low
      → ((v : T) → is_value v ≡ true → has cmp (and_span cmp out (gap_before low span)) v ≡ wanted v) × IsRisingFrom cmp is_value (Some least) (and_span cmp out (gap_before low span))
  outside_ended out span rest low e state = (
    λ v value. sym (or_false _) ∙ ap (λ end. has cmp (and_span cmp out (gap_before low span)) v || (is_past cmp v end && not (has cmp rest v))) (sym e) ∙ out_step out span rest low state v value,
    out_rises out span rest low state,
  )

  -- the values from `low` on are the last
  pub outside_last : (out : List (Span T)) (low : T) (last : Span T) → last ≡ record { from = low; to = None } → IsOutside cmp is_value least wanted out [] low
      → ((v : T) → is_value v ≡ true → has cmp (out ++ last ∷ []) v ≡ wanted v) × IsRisingFrom cmp is_value (Some least) (out ++ last ∷ [])
  outside_last out low last e state = rw e (
    λ v value. has-push cmp out (record { from = low; to = None }) v ∙ state.sets v value,
    rises_push order is_value (Some least) out (record { from = low; to = None }) state.out_rises state.past (record { from_in = state.low_in; to_in = tt; has_one = refl }),
  )

  -- ---- the same at the places where the code stands

  pub next_at : (out new spans : List (Span T)) (i : ℕ) (span : Span T) (low to : T) → i < length spans → span ≡ get_or spans i span → span.to ≡ Some to → new ≡ and_span cmp out (gap_before low span)
      → IsOutside cmp is_value least wanted out (drop i spans) low → IsOutside cmp is_value least wanted new (drop (i + 1) spans) to
  next_at out new spans i span low to within is e is_new state =
      let here : IsOutside cmp is_value least wanted out (span ∷ drop (i + 1) spans) low = subst (λ rest. IsOutside cmp is_value least wanted out rest low) (rest_at spans i span within is) state in
      subst (λ out. IsOutside cmp is_value least wanted out (drop (i + 1) spans) to) (sym is_new) (outside_next out span (drop (i + 1) spans) low to e here)

  pub ended_at : (out new spans : List (Span T)) (i : ℕ) (span : Span T) (low : T) → i < length spans → span ≡ get_or spans i span → span.to ≡ None → new ≡ and_span cmp out (gap_before low span)
      → IsOutside cmp is_value least wanted out (drop i spans) low
      → ((v : T) → is_value v ≡ true → has cmp new v ≡ wanted v) × IsRisingFrom cmp is_value (Some least) new
  ended_at out new spans i span low within is e is_new state =
      let here : IsOutside cmp is_value least wanted out (span ∷ drop (i + 1) spans) low = subst (λ rest. IsOutside cmp is_value least wanted out rest low) (rest_at spans i span within is) state in
      subst (λ out. ((v : T) → is_value v ≡ true → has cmp out v ≡ wanted v) × IsRisingFrom cmp is_value (Some least) out) (sym is_new) (outside_ended out span (drop (i + 1) spans) low e here)

  pub last_at : (out new spans : List (Span T)) (i : ℕ) (low : T) → length spans ≤ i → new ≡ out ++ record { from = low; to = None } ∷ [] → IsOutside cmp is_value least wanted out (drop i spans) low
      → ((v : T) → is_value v ≡ true → has cmp new v ≡ wanted v) × IsRisingFrom cmp is_value (Some least) new
  last_at out new spans i low past is_new state =
      let here : IsOutside cmp is_value least wanted out [] low = subst (λ rest. IsOutside cmp is_value least wanted out rest low) (drop_all i spans past) state in
      subst (λ out. ((v : T) → is_value v ≡ true → has cmp out v ≡ wanted v) × IsRisingFrom cmp is_value (Some least) out) (sym is_new) (outside_last out low (record { from = low; to = None }) refl here)

pub outside_none : {T : Type 0} {cmp : T → T → Ordering} {is_value : T → Bool} {least : T} {next : T → T} {is_greatest : T → Bool} (line : IsLine cmp is_value least next is_greatest)
    (spans : List (Span T)) (low : T) → low ≡ least → IsRisingFrom cmp is_value (Some least) spans → IsOutside cmp is_value least (λ v. not (has cmp spans v)) [] spans low
outside_none {cmp = cmp} {is_value = is_value} {least = least} line spans low e rises =
    subst (λ low. IsOutside cmp is_value least (λ v. not (has cmp spans v)) [] spans low) (sym e) (record {
      sets = λ v value. ap (λ b. b && not (has cmp spans v)) (line.least_below v value);
      out_rises = tt;
      rest_rises = rises;
      low_in = line.least_value;
      past = reflexive line.order least;
    })
