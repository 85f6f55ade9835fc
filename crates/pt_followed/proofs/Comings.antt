-- Values of a set that come to what belongs to a part, or to an entry.
use Rattle.std.proofs.Common.{◌≡◌, inl, inr, ℕ, zero, suc, ◌+◌, ◌<◌, ◌≤◌, arith, Bool, true, false, List, [], ◌∷◌, length, drop, get_or, map, Some, None, ℤ, pos, ◌+ℤ◌, ◌<ℤ◌, ◌≤ℤ◌, refl, sym, ap, subst, ◌∙◌}
use Rattle.std.specs.Prelude.{not}
use Rattle.std.specs.Cmp.{tied_itself}
use Rattle.std.specs.List.{list_any}
use Rattle.std.specs.Ordering.{int_cmp, is_eq, is_ge, is_gt, is_le, is_lt, ordering_then}
use Rattle.std.specs.declared.cmp.Ordering.{Ordering}
use Rattle.std.specs.declared.cmp.Ordering.TheVariants.{Less, Equal, Greater}
use Rattle.std.proofs.lemmas.Bool.{false_from_ne_true, false≢true, or_cases, or_left, or_right, true≢false}
use Rattle.std.proofs.lemmas.Int.{ints}
use Rattle.std.proofs.lemmas.List.{at_drop_all, at_drop_more, get_or-map}
use Rattle.std.proofs.lemmas.List.Quantifiers.{position-Some}
use Rattle.pt_value.specs.Value.{value_cmp, value_cmp_total}
use Rattle.pt_value.specs.declared.value.Value.{Value}
use Rattle.pt_value.specs.declared.value.Value.TheVariants.{Null, Int, Day, Bytes}
use Rattle.pt_ast.specs.declared.tree.Func.{Func}
use Rattle.pt_ast.specs.declared.table.Bound.{Bound}
use Rattle.pt_ast.specs.declared.table.Bound.TheVariants.{Val, Max}
use Rattle.pt_ast.specs.declared.table.PartDef.{PartDef}
use Rattle.pt_ast.specs.Bounds.{tuple_cmp}
use Rattle.pt_ast.specs.Lists.{has_tuple, list_fault, list_part}
use Rattle.pt_ast.specs.Ranges.{bound_of}
use Rattle.pt_bounds.proofs.Once.{once}
use Rattle.pt_bounds.proofs.Orders.{tuple_cmp-Equal, tuple_cmp_total}
use Rattle.pt_expr.specs.Values.{part_of_day}
use Rattle.pt_interval.specs.Counting.{AreAll}
use Rattle.pt_interval.specs.Instances.{at_most_int, above_int, int_above, int_at_most}
use Rattle.pt_reach.specs.declared.domain.Domain.{Domain}
use Rattle.pt_reach.specs.Domains.{IsSome, has_in, is_day}
use Rattle.pt_reach.specs.Kept.{is_year_or_days}
use Rattle.pt_reach.specs.Scales.{number_order}
use Rattle.pt_reach.proofs.Orders.{number_null}
use Rattle.pt_followed.specs.Places.{IsFirstDay}
use Rattle.pt_followed.specs.Steps.{HasEntryBy, HasItemBy, IsDecided, IsListedBy, IsNumberBound, IsNumberEnd, IsSomeEntry, bound_before, come_to, is_below, is_from}
use Rattle.pt_followed.proofs.Calendar.{below_first, come_day, come_null, from_first}
use Rattle.pt_followed.proofs.Counting.{first_place}
use Rattle.pt_followed.proofs.Edges.{one_value, tie_told}

-- ---- a range

-- the same in tests that agree on the set
pub some_told : (b : Bool) (set : Domain) (p q s t : Value → Bool) → ((v : Value) → has_in set v ≡ true → p v ≡ s v) → ((v : Value) → has_in set v ≡ true → q v ≡ t v) → IsDecided b (IsSome (has_in set) p q)
    → IsDecided b ((v : Value) × (has_in set v ≡ true) × (s v ≡ true) × (t v ≡ true))
some_told true set p q s t first second (v, held, a, c) = (v, held, sym (first v held) ∙ a, sym (second v held) ∙ c)
some_told false set p q s t first second none = λ h. none (h.0, h.1, first h.0 h.1 ∙ h.2, second h.0 h.1 ∙ h.3)

pub number_at : (parts : List PartDef) (i : ℕ) → AreAll (λ (part : PartDef). IsNumberBound (bound_of part)) parts → i < length parts → IsNumberBound (get_or (map bound_of parts) i [])
number_at [] i are within = absurd (omega (arith, within))
number_at (p ∷ ps) zero are within = are.0
number_at (p ∷ ps) (suc i) are within = number_at ps i are.1 (omega (arith, within))

pub number_before : (parts : List PartDef) (i : ℕ) → AreAll (λ (part : PartDef). IsNumberBound (bound_of part)) parts → i < length parts → IsNumberEnd (bound_before (map bound_of parts) i)
number_before parts zero are within = tt
number_before parts (suc i) are within = number_at parts i are (omega (arith, within))

-- ---- an item of a list

is_plain : Value → Bool
is_plain Null = true
is_plain (Int n) = true
is_plain (Day day) = false
is_plain (Bytes bytes) = false

same_item : (a b : Value) → Val a ≡ Val b → a ≡ b
same_item a b e = cc

module _ (f : Func) (own : is_year_or_days f ≡ true) (set : Domain) (days : (v : Value) → has_in set v ≡ true → is_day v ≡ true) where
  come_plain : (v : Value) → is_day v ≡ true → is_plain (come_to (Some f) v) ≡ true
  unfolding is_plain
  come_plain Null is = ap is_plain (come_null f own)
  come_plain (Int n) is = absurd (false≢true is)
  come_plain (Day day) is = ap is_plain (come_day f day own)
  come_plain (Bytes bytes) is = absurd (false≢true is)

  never : (w : Value) → is_plain w ≡ false → ¬ (HasItemBy (come_to (Some f)) set (Val w))
  never w other (v, held, e) = true≢false (sym (come_plain v (days v held)) ∙ ap is_plain (sym (same_item w (come_to (Some f) v) e)) ∙ other)

  pub never_day : (day : ℤ) → ¬ (HasItemBy (come_to (Some f)) set (Val (Day day)))
  unfolding is_plain
  never_day day = never (Day day) refl

  pub never_bytes : (bytes : List ℕ) → ¬ (HasItemBy (come_to (Some f)) set (Val (Bytes bytes)))
  unfolding is_plain
  never_bytes bytes = never (Bytes bytes) refl

  null_only : (v : Value) → is_day v ≡ true → Null ≡ come_to (Some f) v → v ≡ Null
  null_only Null is e = refl
  null_only (Int n) is e = absurd (false≢true is)
  null_only (Day day) is e = absurd (let wrong : Null ≡ Int (part_of_day f day) = e ∙ come_day f day own in cc)
  null_only (Bytes bytes) is e = absurd (false≢true is)

  pub null_item : (b : Bool) → IsDecided b (IsSome (has_in set) (λ v. is_eq (value_cmp v Null)) (λ v. true)) → IsDecided b (HasItemBy (come_to (Some f)) set (Val Null))
  null_item true (v, held, equal, any) = (v, held, ap Val (sym (come_null f own) ∙ ap (come_to (Some f)) (sym (one_value v Null equal))))
  null_item false none = λ h.
      let is = null_only h.0 (days h.0 h.1) (same_item Null (come_to (Some f) h.0) h.2) in
      none (h.0, h.1, ap (λ w. is_eq (value_cmp w Null)) is ∙ ap is_eq (tied_itself value_cmp_total Null), refl)

  -- ---- a number

  then_le : (o : Ordering) → not (is_gt (ordering_then o Equal)) ≡ is_le o
  then_le Less = refl
  then_le Equal = refl
  then_le Greater = refl

  then_gt : (o : Ordering) → is_gt (ordering_then o Equal) ≡ not (is_le o)
  then_gt Less = refl
  then_gt Equal = refl
  then_gt Greater = refl

  met_one : (m n : ℤ) → n ≤ℤ m → m <ℤ (n +ℤ pos 1) → m ≡ n
  met_one m n p q = omega (arith, ints)

  next_above : (n : ℤ) → n <ℤ (n +ℤ pos 1)
  next_above n = omega (arith, ints)

  same_most : (n : ℤ) → n ≤ℤ n
  same_most n = omega (arith, ints)

  between_is : (n : ℤ) (w : Value) → is_plain w ≡ true → is_from (Some (Val (Int n) ∷ [])) (w ∷ []) ≡ true → is_below (Some (Val (Int (n +ℤ pos 1)) ∷ [])) (w ∷ []) ≡ true → w ≡ Int n
  unfolding is_plain
  between_is n Null plain from below = absurd (true≢false (sym from ∙ then_le (value_cmp (Int n) Null) ∙ ap is_le (number_null n)))
  between_is n (Int m) plain from below =
      ap Int (met_one m n (int_at_most n m (sym (then_le (value_cmp (Int n) (Int m)) ∙ ap is_le (number_order n m)) ∙ from))
      (int_above (n +ℤ pos 1) m (not_told (is_le (int_cmp (n +ℤ pos 1) m)) (sym (then_gt (value_cmp (Int (n +ℤ pos 1)) (Int m)) ∙ ap (λ o. not (is_le o)) (number_order (n +ℤ pos 1) m)) ∙ below))))
    where
      not_told : (b : Bool) → not b ≡ true → b ≡ false
      not_told true e = absurd (false≢true e)
      not_told false e = refl
  between_is n (Day day) plain from below = absurd (false≢true plain)
  between_is n (Bytes bytes) plain from below = absurd (false≢true plain)

  is_from_it : (n : ℤ) (w : Value) → w ≡ Int n → is_from (Some (Val (Int n) ∷ [])) (w ∷ []) ≡ true
  is_from_it n w is =
      ap (λ (u : Value). is_from (Some (Val (Int n) ∷ [])) (u ∷ [])) is ∙ then_le (value_cmp (Int n) (Int n)) ∙ ap is_le (number_order n n) ∙ at_most_int n n (same_most n)

  is_below_next : (n : ℤ) (w : Value) → w ≡ Int n → is_below (Some (Val (Int (n +ℤ pos 1)) ∷ [])) (w ∷ []) ≡ true
  is_below_next n w is =
      ap (λ (u : Value). is_below (Some (Val (Int (n +ℤ pos 1)) ∷ [])) (u ∷ [])) is ∙ then_gt (value_cmp (Int (n +ℤ pos 1)) (Int n)) ∙ ap (λ o. not (is_le o)) (number_order (n +ℤ pos 1) n)
      ∙ ap not (above_int (n +ℤ pos 1) n (next_above n))

  pub number_item : (b : Bool) (n next p q first second : ℤ) → next ≡ n +ℤ pos 1 → IsFirstDay f n first → IsFirstDay f next second → p ≡ first → q ≡ second
      → IsDecided b (IsSome (has_in set) (λ v. is_ge (value_cmp v (Day p))) (λ v. is_lt (value_cmp v (Day q)))) → IsDecided b (HasItemBy (come_to (Some f)) set (Val (Int n)))
  number_item b n next p q first second after from_n from_next p_is q_is told =
      item b (some_told b set _ _ (λ v. is_from (Some (Val (Int n) ∷ [])) (come_to (Some f) v ∷ [])) (λ v. is_below (Some (Val (Int next) ∷ [])) (come_to (Some f) v ∷ []))
      (λ v held. from_first f own n first p from_n (Val (Int n) ∷ []) p_is (λ is. refl) v tt (days v held))
      (λ v held. below_first f own next second q from_next (Val (Int next) ∷ []) q_is (λ is. refl) v tt (days v held)) told)
    where
      below_as : (w : Value) → is_below (Some (Val (Int next) ∷ [])) (w ∷ []) ≡ is_below (Some (Val (Int (n +ℤ pos 1)) ∷ [])) (w ∷ [])
      below_as w = ap (λ (m : ℤ). is_below (Some (Val (Int m) ∷ [])) (w ∷ [])) after

      item : (t : Bool) → IsDecided t ((v : Value) × (has_in set v ≡ true) × (is_from (Some (Val (Int n) ∷ [])) (come_to (Some f) v ∷ []) ≡ true) × (is_below (Some (Val (Int next) ∷ [])) (come_to (Some f) v ∷ []) ≡ true))
          → IsDecided t (HasItemBy (come_to (Some f)) set (Val (Int n)))
      item true (v, held, from, below) = (v, held, ap Val (sym (between_is n (come_to (Some f) v) (come_plain v (days v held)) from (sym (below_as (come_to (Some f) v)) ∙ below))))
      item false none = λ h.
          let is = sym (same_item (Int n) (come_to (Some f) h.0) h.2) in
          none (h.0, h.1, is_from_it n (come_to (Some f) h.0) is, below_as (come_to (Some f) h.0) ∙ is_below_next n (come_to (Some f) h.0) is)

pub max_item : (come : Value → Value) (set : Domain) → ¬ (HasItemBy come set Max)
max_item come set (v, held, e) = absurd (cc)

-- ---- an entry of one item

module _ (come : Value → Value) (set : Domain) where
  pub one_entry : (b : Bool) (entry : List Bound) (item : Bound) → length entry ≡ 1 → item ≡ get_or entry 0 item → IsDecided b (HasItemBy come set item) → IsDecided b (HasEntryBy come set entry)
  one_entry b [] item one is told = absurd (omega (arith, one))
  one_entry true (x ∷ []) item one is (v, held, e) = (v, held, ap (λ (i : Bound). i ∷ []) (sym is ∙ e))
  one_entry false (x ∷ []) item one is none = λ h. none (h.0, h.1, is ∙ (let e : x ≡ Val (come h.0) = let whole = h.2 in cc in e))
  one_entry b (x ∷ y ∷ rest) item one is told = absurd (omega (arith, one))

  pub other_entry : (entry : List Bound) → (length entry ≡ 1 → ⊥) → ¬ (HasEntryBy come set entry)
  other_entry entry other (v, held, e) = other (ap length e)

  -- ---- some of them

  pub entry_at : (entries : List (List Bound)) (i : ℕ) (entry : List Bound) → i < length entries → entry ≡ get_or entries i entry → HasEntryBy come set entry → IsSomeEntry come set entries
  entry_at [] i entry within is h = absurd (omega (arith, within))
  entry_at (own ∷ entries) zero entry within is h = inl (subst (HasEntryBy come set) is h)
  entry_at (own ∷ entries) (suc i) entry within is h = inr (entry_at entries i entry (omega (arith, within)) is h)

  left_over : (entry : List Bound) (entries : List (List Bound)) → ¬ (HasEntryBy come set entry) → IsSomeEntry come set (entry ∷ entries) → IsSomeEntry come set entries
  left_over entry entries none (inl h) = absurd (none h)
  left_over entry entries none (inr h) = h

  pub entry_none : (entries : List (List Bound)) (i : ℕ) (entry : List Bound) → i < length entries → entry ≡ get_or entries i entry → ¬ (HasEntryBy come set entry) → IsSomeEntry come set (drop i entries)
      → IsSomeEntry come set (drop (i + 1) entries)
  entry_none entries i entry within is none h =
      left_over entry (drop (i + 1) entries) none
      (subst (λ (e : List Bound). IsSomeEntry come set (e ∷ drop (i + 1) entries)) (sym is) (subst (IsSomeEntry come set) (at_drop_more (λ (es : List (List Bound)). es) entries i entry within) h))

  pub entries_out : (entries : List (List Bound)) (i : ℕ) → length entries ≤ i → IsSomeEntry come set (drop i entries) → ⊥
  entries_out entries i past h = subst (IsSomeEntry come set) (at_drop_all (λ (es : List (List Bound)). es) entries i past) h

  pub listed_by : (b : Bool) (parts : List PartDef) (i : ℕ) (part : PartDef) → i < length parts → part ≡ get_or parts i part → IsDecided b (IsSomeEntry come set part.bounds) → IsDecided b (IsListedBy come set parts i)
  listed_by b parts i part within is told =
      subst (λ (es : List (List Bound)). IsDecided b (IsSomeEntry come set es)) (ap (λ (p : PartDef). p.bounds) is ∙ sym (get_or-map (λ (p : PartDef). p.bounds) parts i part [] within)) told

  -- ---- where they are placed

  found_entry : (entries : List (List Bound)) → IsSomeEntry come set entries → (v : Value) × (has_in set v ≡ true) × ((test : List Bound → Bool) → test (Val (come v) ∷ []) ≡ true → list_any test entries ≡ true)
  found_entry [] h = absurd h
  found_entry (entry ∷ entries) (inl (v, held, e)) = (v, held, λ test passes. or_left (test entry) (list_any test entries) (ap test e ∙ passes))
  found_entry (entry ∷ entries) (inr h) = let rest = found_entry entries h in (rest.0, rest.1, λ test passes. or_right (test entry) (list_any test entries) (rest.2 test passes))

  entry_found : (entries : List (List Bound)) (v : Value) → has_in set v ≡ true → list_any (λ other. is_eq (tuple_cmp other (Val (come v) ∷ []))) entries ≡ true → IsSomeEntry come set entries
  entry_found [] v held e = absurd (false≢true e)
  entry_found (entry ∷ entries) v held e = elim (or_cases (is_eq (tuple_cmp entry (Val (come v) ∷ []))) (list_any (λ other. is_eq (tuple_cmp other (Val (come v) ∷ []))) entries) e) [
    | inl h ↦ inl (v, held, tuple_cmp-Equal entry (Val (come v) ∷ []) (tie_told (tuple_cmp entry (Val (come v) ∷ [])) h))
    | inr h ↦ inr (entry_found entries v held h)
  ]

  pub listed_to : (parts : List PartDef) (i : ℕ) → list_fault parts ≡ None → i < length parts → IsListedBy come set parts i → (v : Value) × (has_in set v ≡ true) × (list_part parts (come v ∷ []) ≡ Some i)
  listed_to [] i none within listed = absurd (omega (arith, within))
  listed_to (p ∷ ps) i none within listed =
      let found = found_entry (get_or (p ∷ ps) i p).bounds (subst (IsSomeEntry come set) (get_or-map (λ (q : PartDef). q.bounds) (p ∷ ps) i p [] within) listed) in
      let tuple = Val (come found.0) ∷ [] in
      let passes : has_tuple tuple (get_or (p ∷ ps) i p) ≡ true = found.2 (λ other. is_eq (tuple_cmp other tuple)) (ap is_eq (tied_itself tuple_cmp_total tuple)) in (
        found.0,
        found.1,
        first_place (has_tuple tuple) (p ∷ ps) i p within (λ k less. false_from_ne_true (has_tuple tuple (get_or (p ∷ ps) k p)) (λ there. once (p ∷ ps) tuple k i p none less within there passes)) passes,
      )

  pub listed_back : (parts : List PartDef) (i : ℕ) (v : Value) → i < length parts → has_in set v ≡ true → list_part parts (come v ∷ []) ≡ Some i → IsListedBy come set parts i
  listed_back [] i v within held e = absurd (omega (arith, within))
  listed_back (p ∷ ps) i v within held e =
      subst (IsSomeEntry come set) (sym (get_or-map (λ (q : PartDef). q.bounds) (p ∷ ps) i p [] within))
      (entry_found (get_or (p ∷ ps) i p).bounds v held (position-Some (has_tuple (Val (come v) ∷ [])) (p ∷ ps) i p e).1)
