-- Rows of NULLs, and numbers from one up to another.
use Rattle.std.proofs.Common.{◌≡◌, ℕ, zero, suc, ◌+◌, ◌<◌, ◌≤◌, arith, Bool, true, false, ℤ, pos, ◌+ℤ◌, ◌≤ℤ◌, ◌<ℤ◌, List, [], ◌∷◌, ◌++◌, drop, length, map, Some, None, refl, sym, ap, ap₂, ◌∙◌, append_assoc}
use Rattle.std.specs.Prelude.{not, ◌&&◌, nat_lt, if◌then◌else◌}
use Rattle.std.specs.Ordering.{int_cmp}
use Rattle.std.proofs.lemmas.Bool.{ltb-false, true≢false}
use Rattle.std.proofs.lemmas.Int.{ints}
use Rattle.std.proofs.lemmas.List.{append-nil, at_drop_all, at_drop_more}
use Rattle.pt_value.specs.declared.value.Value.{Value}
use Rattle.pt_value.specs.declared.value.Value.TheVariants.{Null, Int, Day, Bytes}
use Rattle.pt_value.specs.declared.value.Kind.{Kind}
use Rattle.pt_value.specs.declared.value.Kind.TheVariants as kind
use Rattle.pt_value.specs.Fits.{fits_date}
use Rattle.pt_ast.specs.declared.table.Column.{Column}
use Rattle.pt_expr.specs.Columns.{AreFitting}
use Rattle.pt_expr.specs.Truths.{is_null}
use Rattle.pt_place.specs.Fitting.{kind_at}
use Rattle.pt_interval.specs.Instances.{are_bytes, bytes_cmp, greatest_wide, int_above, int_at_most, is_int, is_int_read, is_int_told, least_wide}
use Rattle.pt_interval.specs.Line.{at_most}
use Rattle.pt_interval.specs.Spans.{IsSet, has}
use Rattle.pt_interval.specs.declared.span.Span.{Span}
use Rattle.pt_reach.specs.declared.domain.Domain.TheVariants as domain
use Rattle.pt_reach.specs.declared.reach.Reach.{Reach}
use Rattle.pt_reach.specs.Domains.{has_in, is_bytes, is_day, is_number, is_of, is_of_column}
use Rattle.pt_reach.specs.Reaching.{IsReach}
use Rattle.pt_reach.specs.Steps.{kind_of}

-- ---- a row of NULLs

abbrev pub nulls_of : List Column → List Value
nulls_of columns = map (λ (column : Column). Null) columns

pub null_more : (columns : List Column) (i : ℕ) (column : Column) (before after : List Value) → i < length columns → before ++ nulls_of (drop i columns) ≡ nulls_of columns → after ≡ before ++ Null ∷ []
    → after ++ nulls_of (drop (i + 1) columns) ≡ nulls_of columns
null_more columns i column before after within so_far now =
    ap (λ (l : List Value). l ++ nulls_of (drop (i + 1) columns)) now
    ∙ append_assoc before (Null ∷ []) (nulls_of (drop (i + 1) columns))
    ∙ sym (at_drop_more (λ cs. before ++ nulls_of cs) columns i column within)
    ∙ so_far

pub null_end : (columns : List Column) (i : ℕ) (before : List Value) → length columns ≤ i → before ++ nulls_of (drop i columns) ≡ nulls_of columns → before ≡ nulls_of columns
null_end columns i before past so_far = sym (append-nil before) ∙ sym (at_drop_all (λ cs. before ++ nulls_of cs) columns i past) ∙ so_far

pub nulls_fit : (columns : List Column) → AreFitting columns (nulls_of columns)
nulls_fit [] = tt
nulls_fit (column ∷ columns) = (tt, nulls_fit columns)

-- ---- numbers

outside_low : (low high v : ℤ) → v <ℤ low → (b : Bool) → is_int low high v ≡ b → b ≡ false
outside_low low high v below true e = absurd (let inside = (is_int_read low high v e).0 in omega (arith, ints, below, inside))
outside_low low high v below false e = refl

outside_high : (low high v : ℤ) → (high +ℤ pos 1) ≤ℤ v → (b : Bool) → is_int low high v ≡ b → b ≡ false
outside_high low high v above true e = absurd (let inside = (is_int_read low high v e).1 in omega (arith, ints, above, inside))
outside_high low high v above false e = refl

up_to : (high v : ℤ) → v <ℤ (high +ℤ pos 1) → v ≤ℤ high
up_to high v h = omega (arith, ints, h)

pub within_int : (low high v : ℤ) → (at_most int_cmp low v && not (at_most int_cmp (high +ℤ pos 1) v)) ≡ is_int low high v
within_int low high v = by (at_most int_cmp low v) (at_most int_cmp (high +ℤ pos 1) v) refl refl
  where
    by : (s t : Bool) → at_most int_cmp low v ≡ s → at_most int_cmp (high +ℤ pos 1) v ≡ t → (s && not t) ≡ is_int low high v
    by true true e f = sym (outside_high low high v (int_at_most (high +ℤ pos 1) v f) (is_int low high v) refl)
    by true false e f = sym (is_int_told low high v (int_at_most low v e) (up_to high v (int_above (high +ℤ pos 1) v f)))
    by false t e f = sym (outside_low low high v (int_above low v e) (is_int low high v) refl)

-- ---- whatever the kind

and_turned : (a b : Bool) → (a && b) ≡ (b && a)
and_turned true true = refl
and_turned true false = refl
and_turned false true = refl
and_turned false false = refl

wide_in : (low high n : ℤ) → is_int least_wide greatest_wide low ≡ true → is_int least_wide greatest_wide high ≡ true → is_int low high n ≡ true → is_int least_wide greatest_wide n ≡ true
wide_in low high n l h e =
    let from = (is_int_read least_wide greatest_wide low l).0 in
    let to = (is_int_read least_wide greatest_wide high h).1 in
    let inside = is_int_read low high n e in
    is_int_told least_wide greatest_wide n (chain least_wide low n from inside.0) (chain n high greatest_wide inside.1 to)
  where
    chain : (a b c : ℤ) → a ≤ℤ b → b ≤ℤ c → a ≤ℤ c
    chain a b c p q = omega (arith, ints, p, q)

module _ (test : Value → Bool) where
  pub numbers_in : (low high p q : ℤ) (reach : Reach ℤ) (spans : List (Span ℤ)) → p ≡ low → q ≡ high +ℤ pos 1 → is_int least_wide greatest_wide low ≡ true → is_int least_wide greatest_wide high ≡ true
      → IsReach int_cmp (is_int least_wide greatest_wide) (λ n. Int n) reach test
      → IsSet int_cmp (is_int least_wide greatest_wide) spans (λ v. has int_cmp reach.spans v && (at_most int_cmp p v && not (at_most int_cmp q v)))
      → (w : Value) → has_in (domain.Numbers (record { null = reach.null; spans = spans })) w ≡ (is_number low high w && test w)
  numbers_in low high p q reach spans low_is high_is l h is cut Null = is.null
  numbers_in low high p q reach spans low_is high_is l h is cut (Int n) = by (is_int least_wide greatest_wide n) refl
    where
      outside : (b : Bool) → is_int low high n ≡ b → is_int least_wide greatest_wide n ≡ false → false ≡ (b && test (Int n))
      outside true e f = absurd (true≢false (sym (wide_in low high n l h e) ∙ f))
      outside false e f = refl

      by : (b : Bool) → is_int least_wide greatest_wide n ≡ b → (b && has int_cmp spans n) ≡ (is_int low high n && test (Int n))
      by true e = cut n e ∙ ap₂ (λ (s t : Bool). s && t) (is.others n e) (ap₂ (λ (x y : ℤ). at_most int_cmp x n && not (at_most int_cmp y n)) low_is high_is ∙ within_int low high n) ∙ and_turned (test (Int n)) (is_int low high n)
      by false e = outside (is_int low high n) refl e
  numbers_in low high p q reach spans low_is high_is l h is cut (Day day) = refl
  numbers_in low high p q reach spans low_is high_is l h is cut (Bytes bytes) = refl

  pub days_in : (reach : Reach ℤ) → IsReach int_cmp fits_date (λ n. Day n) reach test → (w : Value) → has_in (domain.Days reach) w ≡ (is_day w && test w)
  days_in reach is Null = is.null
  days_in reach is (Int n) = refl
  days_in reach is (Day day) = by (fits_date day) refl
    where
      by : (b : Bool) → fits_date day ≡ b → (b && has int_cmp reach.spans day) ≡ (b && test (Day day))
      by true e = is.others day e
      by false e = refl
  days_in reach is (Bytes bytes) = refl

  pub strings_in : (reach : Reach (List ℕ)) → IsReach bytes_cmp are_bytes (λ n. Bytes n) reach test → (w : Value) → has_in (domain.Strings reach) w ≡ (is_bytes w && test w)
  strings_in reach is Null = is.null
  strings_in reach is (Int n) = refl
  strings_in reach is (Day day) = refl
  strings_in reach is (Bytes bytes) = by (are_bytes bytes) refl
    where
      by : (b : Bool) → are_bytes bytes ≡ b → (b && has bytes_cmp reach.spans bytes) ≡ (b && test (Bytes bytes))
      by true e = is.others bytes e
      by false e = refl

-- a column of a kind, and none
none_number : (w : Value) → is_number (pos 1) (pos 0) w ≡ is_null w
none_number Null = refl
none_number (Int n) = outside (is_int (pos 1) (pos 0) n) refl
  where
    outside : (b : Bool) → is_int (pos 1) (pos 0) n ≡ b → b ≡ false
    outside true e = absurd (let both = is_int_read (pos 1) (pos 0) n e in omega (arith, ints, both.0, both.1))
    outside false e = refl
none_number (Day day) = refl
none_number (Bytes bytes) = refl

kind_told : (columns : List Column) (at : ℕ) (b : Bool) (k : Kind) → nat_lt at (length columns) ≡ b → Some k ≡ (if b then Some (kind_at columns at) else None) → (b ≡ true) × (k ≡ kind_at columns at)
kind_told columns at true k e h = (refl, cc)
kind_told columns at false k e h = let bad : Some k ≡ None = h in absurd (cc)

pub of_kind : (columns : List Column) (at : ℕ) (k : Kind) → Some k ≡ kind_of columns at → (k ≡ kind_at columns at) × ((w : Value) → is_of_column columns at w ≡ is_of k w)
of_kind columns at k is =
    let told = kind_told columns at (nat_lt at (length columns)) k refl is in
    (told.1, λ w. ap (λ (b : Bool). if b then is_of (kind_at columns at) w else is_null w) told.0 ∙ ap (λ (j : Kind). is_of j w) (sym told.1))

kind_missing : (columns : List Column) (at : ℕ) (b : Bool) → nat_lt at (length columns) ≡ b → None ≡ (if b then Some (kind_at columns at) else None) → b ≡ false
kind_missing columns at true e h = let bad : None ≡ Some (kind_at columns at) = h in absurd (cc)
kind_missing columns at false e h = refl

no_kind : (columns : List Column) (at : ℕ) → length columns ≤ at → kind_at columns at ≡ kind.BigInt
no_kind [] at past = refl
no_kind (column ∷ columns) zero past = absurd (omega (arith, past))
no_kind (column ∷ columns) (suc at) past = no_kind columns at (omega (arith, past))

pub of_none : (columns : List Column) (at : ℕ) → None ≡ kind_of columns at → (kind_at columns at ≡ kind.BigInt) × ((w : Value) → is_of_column columns at w ≡ is_number (pos 1) (pos 0) w)
of_none columns at is =
    let missing = kind_missing columns at (nat_lt at (length columns)) refl is in
    (no_kind columns at (ltb-false at (length columns) missing), λ w. ap (λ (b : Bool). if b then is_of (kind_at columns at) w else is_null w) missing ∙ sym (none_number w))
