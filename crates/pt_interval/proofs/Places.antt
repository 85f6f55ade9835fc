-- Counting and listing, span by span.
use Rattle.std.proofs.Common.{◌≡◌, ℕ, suc, ◌+◌, ◌-◌, ◌<◌, ◌≤◌, Bool, true, false, not, ◌&&◌, ◌||◌, List, [], ◌∷◌, ◌++◌, length, take, drop, get_or, refl, sym, ap, ◌∙◌, subst, arith, append_assoc, Option, Some, None}
use Rattle.std.specs.Prelude.{◌==◌, MatchBool}
use Rattle.std.specs.declared.cmp.Ordering.{Ordering}
use Rattle.std.proofs.lemmas.Bool.{and_from, ne_eqb, or_left}
use Rattle.std.proofs.lemmas.List.{append-nil, take-append-drop}
use Rattle.std.proofs.lemmas.List.Folds.{list_any-append}
use Rattle.std.specs.List.{list_any}
use Rattle.pt_interval.specs.Line.{at_most, is_from, is_past, IsEnd, IsLine}
use Rattle.pt_interval.specs.Counting.{AreUpTo, AreValues, HasAll, IsCount}
use Rattle.pt_interval.specs.Spans.{has, is_within, IsRisingFrom}
use Rattle.pt_interval.specs.Walk.{walk}
use Rattle.pt_interval.specs.declared.span.Span.{Span}
use Rattle.pt_interval.proofs.Lists.{counted, joined, no_longer, no_values}
use Rattle.pt_interval.proofs.Order.{reflexive}
use Rattle.pt_interval.proofs.Rising.{below_at, has-take, is_span_at}
use Rattle.pt_interval.proofs.Walks.{walk-last, walk-past, walk-step, walk_up_to}

pub count_few : {T : Type 0} (cmp : T → T → Ordering) (is_value is_in : T → Bool) (limit n : ℕ) → IsCount cmp is_value is_in limit n → n ≤ limit
count_few cmp is_value is_in limit n count = omega (arith, count.1.few, count.2)

pub none_counted : {T : Type 0} (cmp : T → T → Ordering) (is_value : T → Bool) (limit : ℕ) → IsCount cmp is_value (has cmp []) limit 0
none_counted cmp is_value limit = ([], no_values cmp is_value (has cmp []) limit (λ v value. refl), refl)

pub none_listed : {T : Type 0} (cmp : T → T → Ordering) (is_value : T → Bool) (limit : ℕ) → AreUpTo cmp is_value (has cmp []) limit []
none_listed cmp is_value limit = no_values cmp is_value (has cmp []) limit (λ v value. refl)

module _ {T : Type 0} {cmp : T → T → Ordering} {is_value : T → Bool} {least : T} {next : T → T} {is_greatest : T → Bool} (line : IsLine cmp is_value least next is_greatest) where
  -- one span more is counted
  pub count_at : (spans : List (Span T)) (i : ℕ) (span : Span T) (to : Option T) (limit m n : ℕ) → IsRisingFrom cmp is_value (Some least) spans → i < length spans → span ≡ get_or spans i span → to ≡ span.to
      → IsCount cmp is_value (has cmp (take i spans)) limit m → IsCount cmp is_value (λ v. is_from cmp (Some span.from) v && not (is_past cmp v to)) (limit - m) n
      → IsCount cmp is_value (has cmp (take (i + 1) spans)) limit (m + n)
  count_at spans i span to limit m n rises within is e before here =
      counted cmp is_value (has cmp (take i spans)) (is_within cmp span) (has cmp (take (i + 1) spans)) limit m n
      (below_at line.order is_value (Some least) spans i span rises within is)
      (λ v. has-take cmp spans i span v within is)
      before
      (subst (λ to. IsCount cmp is_value (λ v. at_most cmp span.from v && not (is_past cmp v to)) (limit - m) n) e here)

  -- one span more is listed
  pub list_at : (spans : List (Span T)) (i : ℕ) (span : Span T) (limit : ℕ) (vs new : List T) → IsRisingFrom cmp is_value (Some least) spans → i < length spans → span ≡ get_or spans i span
      → new ≡ vs ++ walk cmp next is_greatest (limit - length vs) span.from span.to
      → AreUpTo cmp is_value (has cmp (take i spans)) limit vs → AreUpTo cmp is_value (has cmp (take (i + 1) spans)) limit new
  list_at spans i span limit vs new rises within is e before =
      subst (AreUpTo cmp is_value (has cmp (take (i + 1) spans)) limit) (sym e)
      (joined cmp is_value (has cmp (take i spans)) (is_within cmp span) (has cmp (take (i + 1) spans)) limit vs (walk cmp next is_greatest (limit - length vs) span.from span.to)
      (below_at line.order is_value (Some least) spans i span rises within is)
      (λ v. has-take cmp spans i span v within is)
      before
      (walk_up_to line (limit - length vs) span.from span.to (is_span_at cmp is_value (Some least) spans i span rises within is).from_in))

  pub from_at : (spans : List (Span T)) (i : ℕ) (span : Span T) → IsRisingFrom cmp is_value (Some least) spans → i < length spans → span ≡ get_or spans i span → is_value span.from ≡ true
  from_at spans i span rises within is = (is_span_at cmp is_value (Some least) spans i span rises within is).from_in

  pub to_at : (spans : List (Span T)) (i : ℕ) (span : Span T) (to : Option T) → IsRisingFrom cmp is_value (Some least) spans → i < length spans → span ≡ get_or spans i span → to ≡ span.to → IsEnd is_value to
  to_at spans i span to rises within is e = subst (IsEnd is_value) (sym e) (is_span_at cmp is_value (Some least) spans i span rises within is).to_in

  -- what was counted is few, so what is listed is all
  pub listed : (is_in : T → Bool) (limit n : ℕ) (vs : List T) → IsCount cmp is_value is_in (limit + 1) n → n ≤ limit → AreUpTo cmp is_value is_in (limit + 1) vs → AreValues cmp is_value is_in limit (Some vs)
  listed is_in limit n vs count small up =
      let all : HasAll is_value is_in count.0 = count.1.whole (omega (arith, count.2, small)) in
      let short : length vs ≤ length count.0 = no_longer line.order is_value is_in vs count.0 up.inside all in
      (up.inside, up.whole (omega (arith, short, count.2, small)), omega (arith, short, count.2, small))

pub unlisted : {T : Type 0} (cmp : T → T → Ordering) (is_value is_in : T → Bool) (limit n : ℕ) → IsCount cmp is_value is_in (limit + 1) n → limit < n → AreValues cmp is_value is_in limit None
unlisted cmp is_value is_in limit n count many = (count.0, count.1.inside, omega (arith, count.1.few, count.2, many))

-- ---- whether there is one

module _ {T : Type 0} {cmp : T → T → Ordering} {is_value : T → Bool} {least : T} {next : T → T} {is_greatest : T → Bool} (line : IsLine cmp is_value least next is_greatest) where
  pub emptiness : (spans : List (Span T)) (empty : Bool) → empty ≡ (length spans == 0) → IsRisingFrom cmp is_value (Some least) spans
      → MatchBool empty ((v : T) → is_value v ≡ true → has cmp spans v ≡ false) ((v : T) × (is_value v ≡ true) × (has cmp spans v ≡ true))
  emptiness [] empty e rises = subst (λ b. MatchBool b ((v : T) → is_value v ≡ true → has cmp [] v ≡ false) ((v : T) × (is_value v ≡ true) × (has cmp [] v ≡ true))) (sym e) (λ v value. refl)
  emptiness (span ∷ rest) empty e rises =
      subst (λ b. MatchBool b ((v : T) → is_value v ≡ true → has cmp (span ∷ rest) v ≡ false) ((v : T) × (is_value v ≡ true) × (has cmp (span ∷ rest) v ≡ true)))
      (sym (e ∙ ne_eqb (length (span ∷ rest)) 0 (λ f. absurd (omega (arith, f)))))
      (span.from, rises.1.from_in, or_left _ (has cmp rest span.from) (and_from _ _ (reflexive line.order span.from) (ap not rises.1.has_one)))

-- ---- the walk over one span, value by value

module _ {T : Type 0} (cmp : T → T → Ordering) (next : T → T) (is_greatest : T → Bool) where
  pub walked : (whole vs : List T) (n : ℕ) (from : T) (to : Option T) → whole ≡ vs ++ walk cmp next is_greatest n from to → is_past cmp from to ≡ true → vs ≡ whole
  walked whole vs n from to e past = sym (e ∙ ap (λ rest. vs ++ rest) (walk-past cmp next is_greatest n from to past) ∙ append-nil vs)

  pub walked_last : (whole vs : List T) (n : ℕ) (from : T) (to : Option T) → whole ≡ vs ++ walk cmp next is_greatest n from to → 0 < n → is_past cmp from to ≡ false → is_greatest from ≡ true → vs ++ from ∷ [] ≡ whole
  walked_last whole vs n from to e more before last =
      sym (e ∙ ap (λ k. vs ++ walk cmp next is_greatest k from to) (counts n more) ∙ ap (λ rest. vs ++ rest) (walk-last cmp next is_greatest (n - 1) from to before last))
    where
      counts : (n : ℕ) → 0 < n → n ≡ suc (n - 1)
      counts n more = omega arith

  pub walked_on : (whole vs : List T) (n : ℕ) (from : T) (to : Option T) → whole ≡ vs ++ walk cmp next is_greatest n from to → 0 < n → is_past cmp from to ≡ false → is_greatest from ≡ false
      → whole ≡ vs ++ from ∷ [] ++ walk cmp next is_greatest (n - 1) (next from) to
  walked_on whole vs n from to e more before inner =
      e ∙ ap (λ k. vs ++ walk cmp next is_greatest k from to) (counts n more) ∙ ap (λ rest. vs ++ rest) (walk-step cmp next is_greatest (n - 1) from to before inner)
      ∙ sym (append_assoc vs (from ∷ []) (walk cmp next is_greatest (n - 1) (next from) to))
    where
      counts : (n : ℕ) → 0 < n → n ≡ suc (n - 1)
      counts n more = omega arith

  pub walked_out : (whole vs : List T) (n : ℕ) (from : T) (to : Option T) → whole ≡ vs ++ walk cmp next is_greatest n from to → n ≤ 0 → vs ≡ whole
  walked_out whole vs n from to e none = sym (e ∙ ap (λ k. vs ++ walk cmp next is_greatest k from to) (zero_of n none) ∙ append-nil vs)
    where
      zero_of : (n : ℕ) → n ≤ 0 → n ≡ 0
      zero_of n none = omega arith

-- ---- many sets

pub one_of : {A : Type 0} (xs : List A) (x : A) → 1 ≤ length xs → length xs < 2 → x ≡ get_or xs 0 x → xs ≡ x ∷ []
one_of [] x some few e = absurd (omega (arith, some))
one_of (y ∷ []) x some few e = ap (λ z. z ∷ []) (sym e)
one_of (y ∷ z ∷ rest) x some few e = absurd (omega (arith, few))

pub join_halves : {T : Type 0} (cmp : T → T → Ordering) (sets front back : List (List (Span T))) (middle : ℕ) (a b all : List (Span T)) (v : T) → front ≡ take middle sets → back ≡ drop middle sets
    → has cmp all v ≡ (has cmp a v || has cmp b v) → has cmp a v ≡ list_any (λ set. has cmp set v) front → has cmp b v ≡ list_any (λ set. has cmp set v) back
    → has cmp all v ≡ list_any (λ set. has cmp set v) sets
join_halves cmp sets front back middle a b all v is_front is_back joins of_front of_back =
    joins
    ∙ ap (λ t. t || has cmp b v) (of_front ∙ ap (list_any (λ set. has cmp set v)) is_front)
    ∙ ap (λ t. list_any (λ set. has cmp set v) (take middle sets) || t) (of_back ∙ ap (list_any (λ set. has cmp set v)) is_back)
    ∙ sym (list_any-append (λ set. has cmp set v) (take middle sets) (drop middle sets))
    ∙ ap (list_any (λ set. has cmp set v)) (take-append-drop middle sets)
