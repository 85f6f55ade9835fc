-- OR and AND of conditions, part by part.
use Rattle.std.proofs.Common.{◌≡◌, ℕ, ◌+◌, ◌<◌, ◌≤◌, Bool, true, false, not, ◌&&◌, ◌||◌, List, [], ◌∷◌, ◌++◌, drop, length, get_or, map, refl, sym, ap, ◌∙◌}
use Rattle.std.specs.List.{list_all, list_any}
use Rattle.std.specs.declared.cmp.Ordering.{Ordering}
use Rattle.std.proofs.lemmas.List.{at_drop_all, at_drop_more}
use Rattle.std.proofs.lemmas.List.Folds.{list_any-append}
use Rattle.pt_value.specs.declared.value.Value.{Value}
use Rattle.pt_value.specs.declared.value.Value.TheVariants.{Null}
use Rattle.pt_interval.specs.Spans.{IsSet, has}
use Rattle.pt_interval.specs.declared.span.Span.{Span}
use Rattle.pt_reach.specs.declared.reach.Reach.{Reach}
use Rattle.pt_reach.specs.Reaching.{IsReach}
use Rattle.pt_reach.specs.Steps.{IsJoining, IsMeeting, has_some}

or_step : (a b c : Bool) → ((a || b) || c) ≡ (a || (b || c))
or_step true b c = refl
or_step false b c = refl

pub or_one : (a b c : Bool) → ((a || (b || false)) || c) ≡ (a || (b || c))
or_one true b c = refl
or_one false true c = refl
or_one false false c = refl

pub or_none : (a : Bool) → (a || false) ≡ a
or_none true = refl
or_none false = refl

and_step : (a b c : Bool) → ((a && b) && c) ≡ (a && (b && c))
and_step true b c = refl
and_step false b c = refl

and_all : (a : Bool) → (a && true) ≡ a
and_all true = refl
and_all false = refl

gap_step : (a b c : Bool) → (not (a || (not b || false)) && c) ≡ (not a && (b && c))
gap_step true b c = refl
gap_step false true c = refl
gap_step false false c = refl

module _ {T : Type 0} (cmp : T → T → Ordering) (is_value : T → Bool) (value : T → Value) where
  one_more : (sets : List (List (Span T))) (set : List (Span T)) (v : T) → has_some cmp (sets ++ set ∷ []) v ≡ (has_some cmp sets v || (has cmp set v || false))
  one_more sets set v = list_any-append (λ (s : List (Span T)). has cmp s v) sets (set ∷ [])

  -- ---- OR

  pub joining_begins : (sets : List (List (Span T))) (whole : Value → Bool) → sets ≡ [] → IsJoining cmp is_value value false sets whole whole
  joining_begins sets whole none = record { nulls = refl; others = λ v value_v. ap (λ (l : List (List (Span T))). has_some cmp l v || whole (value v)) none }

  pub joining_more : {X : Type 0} (test : Value → X → Bool) (xs : List X) (i : ℕ) (x : X) (null next : Bool) (sets after : List (List (Span T))) (own : Reach T) (whole : Value → Bool) → i < length xs → x ≡ get_or xs i x
      → IsJoining cmp is_value value null sets (λ w. list_any (λ part. part) (map (test w) (drop i xs))) whole → IsReach cmp is_value value own (λ w. test w x) → next ≡ (null || own.null) → after ≡ sets ++ own.spans ∷ []
      → IsJoining cmp is_value value next after (λ w. list_any (λ part. part) (map (test w) (drop (i + 1) xs))) whole
  joining_more test xs i x null next sets after own whole within is so_far here nulls now = record {
    nulls =
        ap (λ (b : Bool). b || rest Null) (nulls ∙ ap (λ (b : Bool). null || b) here.null)
        ∙ or_step null (test Null x) (rest Null)
        ∙ ap (λ (b : Bool). null || b) (sym (step Null))
        ∙ so_far.nulls;
    others = λ v value_v.
        ap (λ (l : List (List (Span T))). has_some cmp l v || rest (value v)) now
        ∙ ap (λ (b : Bool). b || rest (value v)) (one_more sets own.spans v ∙ ap (λ (b : Bool). has_some cmp sets v || (b || false)) (here.others v value_v))
        ∙ or_one (has_some cmp sets v) (test (value v) x) (rest (value v))
        ∙ ap (λ (b : Bool). has_some cmp sets v || b) (sym (step (value v)))
        ∙ so_far.others v value_v;
  }
    where
      rest : Value → Bool
      rest w = list_any (λ part. part) (map (test w) (drop (i + 1) xs))

      step : (w : Value) → list_any (λ part. part) (map (test w) (drop i xs)) ≡ (test w x || rest w)
      step w = at_drop_more (λ ys. list_any (λ part. part) (map (test w) ys)) xs i x within ∙ ap (λ y. test w y || rest w) (sym is)

  pub joining_end : {X : Type 0} (test : Value → X → Bool) (xs : List X) (i : ℕ) (null : Bool) (sets : List (List (Span T))) (spans : List (Span T)) (whole : Value → Bool) → length xs ≤ i
      → IsJoining cmp is_value value null sets (λ w. list_any (λ part. part) (map (test w) (drop i xs))) whole → IsSet cmp is_value spans (has_some cmp sets)
      → IsReach cmp is_value value (record { null = null; spans = spans }) whole
  joining_end test xs i null sets spans whole past so_far all = record {
    null = sym (or_none null) ∙ ap (λ (b : Bool). null || b) (sym (none Null)) ∙ so_far.nulls;
    others = λ v value_v. all v value_v ∙ sym (or_none (has_some cmp sets v)) ∙ ap (λ (b : Bool). has_some cmp sets v || b) (sym (none (value v))) ∙ so_far.others v value_v;
  }
    where
      none : (w : Value) → list_any (λ part. part) (map (test w) (drop i xs)) ≡ false
      none w = at_drop_all (λ ys. list_any (λ part. part) (map (test w) ys)) xs i past

  -- ---- AND

  pub meeting_begins : (gaps : List (List (Span T))) (whole : Value → Bool) → gaps ≡ [] → IsMeeting cmp is_value value true gaps whole whole
  meeting_begins gaps whole none = record { nulls = refl; others = λ v value_v. ap (λ (l : List (List (Span T))). not (has_some cmp l v) && whole (value v)) none }

  pub meeting_more : {X : Type 0} (test : Value → X → Bool) (xs : List X) (i : ℕ) (x : X) (null next : Bool) (gaps after : List (List (Span T))) (own : Reach T) (gap : List (Span T)) (whole : Value → Bool) → i < length xs → x ≡ get_or xs i x
      → IsMeeting cmp is_value value null gaps (λ w. list_all (λ part. part) (map (test w) (drop i xs))) whole → IsReach cmp is_value value own (λ w. test w x) → next ≡ (null && own.null)
      → IsSet cmp is_value gap (λ v. not (has cmp own.spans v)) → after ≡ gaps ++ gap ∷ []
      → IsMeeting cmp is_value value next after (λ w. list_all (λ part. part) (map (test w) (drop (i + 1) xs))) whole
  meeting_more test xs i x null next gaps after own gap whole within is so_far here nulls outside now = record {
    nulls =
        ap (λ (b : Bool). b && rest Null) (nulls ∙ ap (λ (b : Bool). null && b) here.null)
        ∙ and_step null (test Null x) (rest Null)
        ∙ ap (λ (b : Bool). null && b) (sym (step Null))
        ∙ so_far.nulls;
    others = λ v value_v.
        ap (λ (l : List (List (Span T))). not (has_some cmp l v) && rest (value v)) now
        ∙ ap (λ (b : Bool). not b && rest (value v)) (one_more gaps gap v ∙ ap (λ (b : Bool). has_some cmp gaps v || (b || false)) (outside v value_v ∙ ap not (here.others v value_v)))
        ∙ gap_step (has_some cmp gaps v) (test (value v) x) (rest (value v))
        ∙ ap (λ (b : Bool). not (has_some cmp gaps v) && b) (sym (step (value v)))
        ∙ so_far.others v value_v;
  }
    where
      rest : Value → Bool
      rest w = list_all (λ part. part) (map (test w) (drop (i + 1) xs))

      step : (w : Value) → list_all (λ part. part) (map (test w) (drop i xs)) ≡ (test w x && rest w)
      step w = at_drop_more (λ ys. list_all (λ part. part) (map (test w) ys)) xs i x within ∙ ap (λ y. test w y && rest w) (sym is)

  pub meeting_end : {X : Type 0} (test : Value → X → Bool) (xs : List X) (i : ℕ) (null : Bool) (gaps : List (List (Span T))) (gap spans : List (Span T)) (whole : Value → Bool) → length xs ≤ i
      → IsMeeting cmp is_value value null gaps (λ w. list_all (λ part. part) (map (test w) (drop i xs))) whole → IsSet cmp is_value gap (has_some cmp gaps) → IsSet cmp is_value spans (λ v. not (has cmp gap v))
      → IsReach cmp is_value value (record { null = null; spans = spans }) whole
  meeting_end test xs i null gaps gap spans whole past so_far all outside = record {
    null = sym (and_all null) ∙ ap (λ (b : Bool). null && b) (sym (every Null)) ∙ so_far.nulls;
    others = λ v value_v.
        outside v value_v
        ∙ ap not (all v value_v)
        ∙ sym (and_all (not (has_some cmp gaps v)))
        ∙ ap (λ (b : Bool). not (has_some cmp gaps v) && b) (sym (every (value v)))
        ∙ so_far.others v value_v;
  }
    where
      every : (w : Value) → list_all (λ part. part) (map (test w) (drop i xs)) ≡ true
      every w = at_drop_all (λ ys. list_all (λ part. part) (map (test w) ys)) xs i past
