-- Whether some value of a set passes tests: NULL, or one of the spans.
use Rattle.std.proofs.Common.{inl, inr, ◌≡◌, ℕ, ℤ, Bool, true, false, not, ◌&&◌, List, sym, subst, ◌∙◌}
use Rattle.std.specs.Prelude.{MatchBool}
use Rattle.std.specs.declared.cmp.Ordering.{Ordering}
use Rattle.std.specs.Ordering.{int_cmp}
use Rattle.pt_value.specs.Fits.{fits_date}
use Rattle.pt_interval.specs.Instances.{are_bytes, bytes_cmp, greatest_wide, is_int, least_wide}
use Rattle.pt_reach.specs.declared.domain.Domain.{Domain}
use Rattle.pt_reach.specs.declared.domain.Domain.TheVariants as domain
use Rattle.pt_reach.specs.Domains.{IsSome, has_in}
use Rattle.std.proofs.lemmas.Bool.{and_from, and_parts, false≢true, true≢false}
use Rattle.pt_value.specs.declared.value.Value.{Value}
use Rattle.pt_value.specs.declared.value.Value.TheVariants.{Null, Int, Day, Bytes}
use Rattle.pt_interval.specs.Spans.{IsSet, has}
use Rattle.pt_interval.specs.declared.span.Span.{Span}
use Rattle.pt_reach.specs.declared.reach.Reach.{Reach}
use Rattle.pt_reach.specs.Reaching.{IsMet}

module _ {T : Type 0} (cmp : T → T → Ordering) (is_value : T → Bool) (value : T → Value) (reach : Reach T) (first second : Value → Bool) where
  abbrev Met : Type 0
  Met = IsMet cmp is_value value reach (λ w. first w && second w)

  pub null_met : (reach.null && (first Null && second Null)) ≡ true → Met
  null_met e = inl (and_parts reach.null (first Null && second Null) e)

  -- what is found of the spans, where it isn't NULL
  pub met : (none : Bool) (found : List (Span T)) → (reach.null && (first Null && second Null)) ≡ false
      → ((v : T) → is_value v ≡ true → has cmp found v ≡ (has cmp reach.spans v && (first (value v) && second (value v))))
      → MatchBool none (IsSet cmp is_value found (λ v. false)) ((v : T) × (is_value v ≡ true) × (has cmp found v ≡ true)) → MatchBool (not none) Met (¬ Met)
  met true found no_null is empty = no
    where
      no : Met → ⊥
      no (inl h) = true≢false (sym (and_from reach.null (first Null && second Null) h.0 h.1) ∙ no_null)
      no (inr (v, value_v, has_v, passes)) = true≢false (sym (and_from (has cmp reach.spans v) (first (value v) && second (value v)) has_v passes) ∙ sym (is v value_v) ∙ empty v value_v)
  met false found no_null is some =
      let both = and_parts (has cmp reach.spans some.0) (first (value some.0) && second (value some.0)) (sym (is some.0 some.1) ∙ some.2) in
      inr (some.0, some.1, both.0, both.1)

-- ---- whatever the kind

pub decided : (b : Bool) (P Q : Type 0) → (P → Q) → (Q → P) → MatchBool b P (¬ P) → MatchBool b Q (¬ Q)
decided true P Q to back h = to h
decided false P Q to back h = λ q. h (back q)

module _ (first second : Value → Bool) where
  numbers_to : (reach : Reach ℤ) → Met int_cmp (is_int least_wide greatest_wide) (λ n. Int n) reach first second → IsSome (has_in (domain.Numbers reach)) first second
  numbers_to reach (inl h) = let both = and_parts (first Null) (second Null) h.1 in (Null, h.0, both.0, both.1)
  numbers_to reach (inr (n, value_n, held, passes)) =
      let both = and_parts (first (Int n)) (second (Int n)) passes in
      (Int n, and_from (is_int least_wide greatest_wide n) (has int_cmp reach.spans n) value_n held, both.0, both.1)

  numbers_back : (reach : Reach ℤ) → IsSome (has_in (domain.Numbers reach)) first second → Met int_cmp (is_int least_wide greatest_wide) (λ n. Int n) reach first second
  numbers_back reach (Null, held, p, q) = inl (held, and_from (first Null) (second Null) p q)
  numbers_back reach (Int n, held, p, q) =
      let both = and_parts (is_int least_wide greatest_wide n) (has int_cmp reach.spans n) held in
      inr (n, both.0, both.1, and_from (first (Int n)) (second (Int n)) p q)
  numbers_back reach (Day day, held, p, q) = absurd (false≢true held)
  numbers_back reach (Bytes bytes, held, p, q) = absurd (false≢true held)

  days_to : (reach : Reach ℤ) → Met int_cmp fits_date (λ n. Day n) reach first second → IsSome (has_in (domain.Days reach)) first second
  days_to reach (inl h) = let both = and_parts (first Null) (second Null) h.1 in (Null, h.0, both.0, both.1)
  days_to reach (inr (day, value_day, held, passes)) =
      let both = and_parts (first (Day day)) (second (Day day)) passes in
      (Day day, and_from (fits_date day) (has int_cmp reach.spans day) value_day held, both.0, both.1)

  days_back : (reach : Reach ℤ) → IsSome (has_in (domain.Days reach)) first second → Met int_cmp fits_date (λ n. Day n) reach first second
  days_back reach (Null, held, p, q) = inl (held, and_from (first Null) (second Null) p q)
  days_back reach (Int n, held, p, q) = absurd (false≢true held)
  days_back reach (Day day, held, p, q) =
      let both = and_parts (fits_date day) (has int_cmp reach.spans day) held in
      inr (day, both.0, both.1, and_from (first (Day day)) (second (Day day)) p q)
  days_back reach (Bytes bytes, held, p, q) = absurd (false≢true held)

  strings_to : (reach : Reach (List ℕ)) → Met bytes_cmp are_bytes (λ n. Bytes n) reach first second → IsSome (has_in (domain.Strings reach)) first second
  strings_to reach (inl h) = let both = and_parts (first Null) (second Null) h.1 in (Null, h.0, both.0, both.1)
  strings_to reach (inr (bytes, value_bytes, held, passes)) =
      let both = and_parts (first (Bytes bytes)) (second (Bytes bytes)) passes in
      (Bytes bytes, and_from (are_bytes bytes) (has bytes_cmp reach.spans bytes) value_bytes held, both.0, both.1)

  strings_back : (reach : Reach (List ℕ)) → IsSome (has_in (domain.Strings reach)) first second → Met bytes_cmp are_bytes (λ n. Bytes n) reach first second
  strings_back reach (Null, held, p, q) = inl (held, and_from (first Null) (second Null) p q)
  strings_back reach (Int n, held, p, q) = absurd (false≢true held)
  strings_back reach (Day day, held, p, q) = absurd (false≢true held)
  strings_back reach (Bytes bytes, held, p, q) =
      let both = and_parts (are_bytes bytes) (has bytes_cmp reach.spans bytes) held in
      inr (bytes, both.0, both.1, and_from (first (Bytes bytes)) (second (Bytes bytes)) p q)

  pub some_number : (d : Domain) (reach : Reach ℤ) (b : Bool) → d ≡ domain.Numbers reach → MatchBool b (Met int_cmp (is_int least_wide greatest_wide) (λ n. Int n) reach first second) (¬ (Met int_cmp (is_int least_wide greatest_wide) (λ n. Int n) reach first second))
      → MatchBool b (IsSome (has_in d) first second) (¬ (IsSome (has_in d) first second))
  some_number d reach b is h = subst (λ e. MatchBool b (IsSome (has_in e) first second) (¬ (IsSome (has_in e) first second))) (sym is) (decided b _ _ (numbers_to reach) (numbers_back reach) h)

  pub some_day : (d : Domain) (reach : Reach ℤ) (b : Bool) → d ≡ domain.Days reach → MatchBool b (Met int_cmp fits_date (λ n. Day n) reach first second) (¬ (Met int_cmp fits_date (λ n. Day n) reach first second))
      → MatchBool b (IsSome (has_in d) first second) (¬ (IsSome (has_in d) first second))
  some_day d reach b is h = subst (λ e. MatchBool b (IsSome (has_in e) first second) (¬ (IsSome (has_in e) first second))) (sym is) (decided b _ _ (days_to reach) (days_back reach) h)

  pub some_string : (d : Domain) (reach : Reach (List ℕ)) (b : Bool) → d ≡ domain.Strings reach → MatchBool b (Met bytes_cmp are_bytes (λ n. Bytes n) reach first second) (¬ (Met bytes_cmp are_bytes (λ n. Bytes n) reach first second))
      → MatchBool b (IsSome (has_in d) first second) (¬ (IsSome (has_in d) first second))
  some_string d reach b is h = subst (λ e. MatchBool b (IsSome (has_in e) first second) (¬ (IsSome (has_in e) first second))) (sym is) (decided b _ _ (strings_to reach) (strings_back reach) h)
