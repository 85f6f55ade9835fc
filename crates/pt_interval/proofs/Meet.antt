-- What two sets share, span by span.
use Rattle.std.proofs.Common.{◌≡◌, ℕ, ◌+◌, ◌<◌, Bool, true, false, not, ◌&&◌, ◌||◌, List, [], ◌∷◌, ◌++◌, length, drop, get_or, refl, sym, ap, ◌∙◌, subst, ◌⊎◌, inl, inr, Option, Some, None, if◌then◌else◌}
use Rattle.std.specs.declared.cmp.Ordering.{Ordering}
use Rattle.std.specs.Cmp.{IsTotalOrder}
use Rattle.std.proofs.lemmas.List.{drop_more}
use Rattle.std.proofs.lemmas.Bool.{true≢false, false≢true, and_parts, not-true}
use Rattle.pt_interval.specs.Line.{at_most, is_past, IsEnd}
use Rattle.pt_interval.specs.Spans.{has, is_within, IsRisingFrom, IsSpan}
use Rattle.pt_interval.specs.Steps.{and_span, end_of, ends_by, later, shared}
use Rattle.pt_interval.specs.declared.span.Span.{Span}
use Rattle.pt_interval.proofs.Order.{past_more, reflexive, trans, turn}
use Rattle.pt_interval.proofs.Rising.{end_of-push, has-and_span, has_past, rises-and_span, rises_later}
use Rattle.pt_interval.proofs.Tables.{and_comm, and_implied, and_implying, meet_bool, or_assoc, share_bool}

-- o is what p and q share, and p ends with it
pub record IsShare {T : Type 0} (cmp : T → T → Ordering) (is_value : T → Bool) (p q o : Span T) : Type 0 where
  pub within : (v : T) → is_within cmp o v ≡ (is_within cmp p v && is_within cmp q v)
  pub behind_p : at_most cmp p.from o.from ≡ true
  pub behind_q : at_most cmp q.from o.from ≡ true
  pub from_in : is_value o.from ≡ true
  pub to_in : IsEnd is_value o.to
  pub end : o.to ≡ p.to
  pub first : (v : T) → is_past cmp v p.to ≡ false → is_past cmp v q.to ≡ false

-- so far `out`, then what `p` and `q` share
pub record IsMeeting {T : Type 0} (cmp : T → T → Ordering) (is_value : T → Bool) (least : T) (wanted : T → Bool) (out p q : List (Span T)) : Type 0 where
  pub sets : (v : T) → (has cmp out v || (has cmp p v && has cmp q v)) ≡ wanted v
  pub out_rises : IsRisingFrom cmp is_value (Some least) out
  pub p_rises : IsRisingFrom cmp is_value (Some least) p
  pub q_rises : IsRisingFrom cmp is_value (Some least) q
  pub behind : IsRisingFrom cmp is_value (end_of (Some least) out) p ⊎ IsRisingFrom cmp is_value (end_of (Some least) out) q

module _ {T : Type 0} {cmp : T → T → Ordering} (order : IsTotalOrder cmp) where
  past_first : (a b : Option T) (v : T) → ends_by cmp a b ≡ true → is_past cmp v b ≡ true → is_past cmp v a ≡ true
  past_first a None v e past = absurd (false≢true past)
  past_first None (Some b) v e past = absurd (false≢true e)
  past_first (Some a) (Some b) v e past = trans order a b v e past

  pub ends_turn : (a b : Option T) → ends_by cmp a b ≡ false → ends_by cmp b a ≡ true
  ends_turn a None e = absurd (true≢false e)
  ends_turn None (Some b) e = refl
  ends_turn (Some a) (Some b) e = turn order a b e

  from-later : (a b v : T) → at_most cmp (later cmp a b) v ≡ (at_most cmp a v && at_most cmp b v)
  from-later a b v = by (at_most cmp a b) refl
    where
      by : (c : Bool) → at_most cmp a b ≡ c → at_most cmp (if c then b else a) v ≡ (at_most cmp a v && at_most cmp b v)
      by true e = and_implied (at_most cmp a v) (at_most cmp b v) (λ h. trans order a b v e h)
      by false e = and_implying (at_most cmp a v) (at_most cmp b v) (λ h. trans order b a v (turn order a b e) h)

  later_value : (is_value : T → Bool) (a b : T) → is_value a ≡ true → is_value b ≡ true → is_value (later cmp a b) ≡ true
  later_value is_value a b h k = by (at_most cmp a b)
    where
      by : (c : Bool) → is_value (if c then b else a) ≡ true
      by true = k
      by false = h

  later_behind : (a b : T) → (at_most cmp a (later cmp a b) ≡ true) × (at_most cmp b (later cmp a b) ≡ true)
  later_behind a b = and_parts _ _ (sym (from-later a b (later cmp a b)) ∙ reflexive order (later cmp a b))

  not_past : (a b : Option T) (v : T) → ends_by cmp a b ≡ true → is_past cmp v a ≡ false → is_past cmp v b ≡ false
  not_past a b v e before = by (is_past cmp v b) refl
    where
      by : (c : Bool) → is_past cmp v b ≡ c → c ≡ false
      by true past = absurd (true≢false (sym (past_first a b v e past) ∙ before))
      by false past = refl

  -- of two spans, the first of which ends first
  pub share : {is_value : T → Bool} (p q : Span T) → IsSpan cmp is_value p → IsSpan cmp is_value q → ends_by cmp p.to q.to ≡ true → IsShare cmp is_value p q (shared cmp p q)
  share {is_value} p q h k e = record {
    within = λ v.
        ap (λ b. b && not (is_past cmp v p.to)) (from-later p.from q.from v)
        ∙ share_bool (at_most cmp p.from v) (at_most cmp q.from v) (is_past cmp v p.to) (is_past cmp v q.to) (past_first p.to q.to v e);
    behind_p = (later_behind p.from q.from).0;
    behind_q = (later_behind p.from q.from).1;
    from_in = later_value is_value p.from q.from h.from_in k.from_in;
    to_in = h.to_in;
    end = refl;
    first = λ v. not_past p.to q.to v e;
  }

  -- what is in p isn't in a span behind q
  not_behind : (is_value : T → Bool) (p q o : Span T) (qs : List (Span T)) (v : T) → IsShare cmp is_value p q o → IsRisingFrom cmp is_value q.to qs → is_within cmp p v ≡ true → has cmp qs v ≡ false
  not_behind is_value p q o qs v share rises inside = by (has cmp qs v) refl
    where
      by : (b : Bool) → has cmp qs v ≡ b → b ≡ false
      by true e = absurd (true≢false (sym (has_past order is_value q.to qs v rises e) ∙ share.first v (not-true _ (and_parts _ _ inside).1)))
      by false e = refl

  module _ {is_value : T → Bool} {least : T} {wanted : T → Bool} where
    pub turned : {out p q : List (Span T)} → IsMeeting cmp is_value least wanted out p q → IsMeeting cmp is_value least wanted out q p
    turned {out} {p} {q} state = record {
      sets = λ v. ap (λ b. has cmp out v || b) (and_comm (has cmp q v) (has cmp p v)) ∙ state.sets v;
      out_rises = state.out_rises;
      p_rises = state.q_rises;
      q_rises = state.p_rises;
      behind = elim state.behind [ inl r ↦ inr r | inr r ↦ inl r ];
    }

    -- on behind p, which ends first
    pub step_by : (out : List (Span T)) (p : Span T) (ps : List (Span T)) (q : Span T) (qs : List (Span T)) (o : Span T) → IsShare cmp is_value p q o
        → IsMeeting cmp is_value least wanted out (p ∷ ps) (q ∷ qs) → IsMeeting cmp is_value least wanted (and_span cmp out o) ps (q ∷ qs)
    step_by out p ps q qs o share state = record {
      sets = λ v.
          ap (λ b. b || (has cmp ps v && has cmp (q ∷ qs) v)) (has-and_span order out o v ∙ ap (λ b. has cmp out v || b) (share.within v))
          ∙ or_assoc (has cmp out v) (is_within cmp p v && is_within cmp q v) (has cmp ps v && has cmp (q ∷ qs) v)
          ∙ ap (λ b. has cmp out v || b) (sym (meet_bool (is_within cmp p v) (has cmp ps v) (is_within cmp q v) (has cmp qs v) (not_behind is_value p q o qs v share state.q_rises.2)))
          ∙ state.sets v;
      out_rises = rises-and_span order is_value (Some least) out o state.out_rises past share.from_in share.to_in;
      p_rises = rises_later order is_value (Some least) p ps state.p_rises;
      q_rises = state.q_rises;
      behind = by (is_past cmp o.from o.to) refl;
    }
      where
        past : is_past cmp o.from (end_of (Some least) out) ≡ true
        past = elim state.behind [
          | inl r ↦ past_more order p.from o.from (end_of (Some least) out) share.behind_p r.0
          | inr r ↦ past_more order q.from o.from (end_of (Some least) out) share.behind_q r.0
        ]

        by : (b : Bool) → is_past cmp o.from o.to ≡ b
            → IsRisingFrom cmp is_value (end_of (Some least) (if b then out else out ++ o ∷ [])) ps ⊎ IsRisingFrom cmp is_value (end_of (Some least) (if b then out else out ++ o ∷ [])) (q ∷ qs)
        by true e = elim state.behind [ inl r ↦ inl (rises_later order is_value (end_of (Some least) out) p ps r) | inr r ↦ inr r ]
        by false e = inl (subst (λ low. IsRisingFrom cmp is_value low ps) (sym (end_of-push (Some least) out o ∙ share.end)) state.p_rises.2)

    -- the same in two lists, at the places where the code stands
    pub step_at : (out new : List (Span T)) (a b : List (Span T)) (i j : ℕ) (p q : Span T) → i < length a → j < length b → p ≡ get_or a i p → q ≡ get_or b j q
        → ends_by cmp p.to q.to ≡ true → new ≡ and_span cmp out (shared cmp p q)
        → IsMeeting cmp is_value least wanted out (drop i a) (drop j b) → IsMeeting cmp is_value least wanted new (drop (i + 1) a) (drop j b)
    step_at out new a b i j p q in_a in_b is_p is_q ends is_new state =
        let at_p : drop i a ≡ p ∷ drop (i + 1) a = drop_more a i p in_a ∙ ap (λ x. x ∷ drop (i + 1) a) (sym is_p) in
        let at_q : drop j b ≡ q ∷ drop (j + 1) b = drop_more b j q in_b ∙ ap (λ x. x ∷ drop (j + 1) b) (sym is_q) in
        let here : IsMeeting cmp is_value least wanted out (p ∷ drop (i + 1) a) (q ∷ drop (j + 1) b) =
        subst (λ xs. IsMeeting cmp is_value least wanted out (p ∷ drop (i + 1) a) xs) at_q (subst (λ xs. IsMeeting cmp is_value least wanted out xs (drop j b)) at_p state) in
        let next = step_by out p (drop (i + 1) a) q (drop (j + 1) b) (shared cmp p q) (share p q here.p_rises.1 here.q_rises.1 ends) here in
        subst (λ xs. IsMeeting cmp is_value least wanted new (drop (i + 1) a) xs) (sym at_q) (subst (λ xs. IsMeeting cmp is_value least wanted xs (drop (i + 1) a) (q ∷ drop (j + 1) b)) (sym is_new) next)

-- nothing is gathered yet
pub begins : {T : Type 0} (cmp : T → T → Ordering) (is_value : T → Bool) (least : T) (out a b : List (Span T)) (i : ℕ) → out ≡ [] → ((v : T) → (has cmp (drop i a) v && has cmp b v) ≡ (has cmp a v && has cmp b v))
    → IsRisingFrom cmp is_value (Some least) (drop i a) → IsRisingFrom cmp is_value (Some least) b → IsMeeting cmp is_value least (λ v. has cmp a v && has cmp b v) out (drop i a) b
begins cmp is_value least out a b i none sets rises others =
    subst (λ xs. IsMeeting cmp is_value least (λ v. has cmp a v && has cmp b v) xs (drop i a) b) (sym none) (record { sets = sets; out_rises = tt; p_rises = rises; q_rises = others; behind = inl rises })
