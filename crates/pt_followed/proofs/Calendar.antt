-- YEAR and TO_DAYS rise with the day, so they come to a number from one day on.
use Rattle.std.proofs.Common.{◌≡◌, inl, inr, ℕ, ◌+◌, ◌<◌, ◌≤◌, arith, Bool, true, false, List, [], ◌∷◌, Some, None, ℤ, pos, ◌+ℤ◌, ◌-ℤ◌, ◌<ℤ◌, ◌≤ℤ◌, refl, sym, ap, subst, ◌∙◌}
use Rattle.std.specs.Prelude.{neg_ℤ, not, unsigned_abs}
use Rattle.std.specs.declared.cmp.Ordering.{Ordering}
use Rattle.std.specs.declared.cmp.Ordering.TheVariants.{Less, Equal, Greater}
use Rattle.std.specs.Cmp.{int_cmp_total}
use Rattle.std.specs.Ordering.{int_cmp, is_ge, is_gt, is_le, is_lt, ordering_reverse, ordering_then}
use Rattle.std.proofs.lemmas.Bool.{cases_lt, false≢true}
use Rattle.std.proofs.lemmas.Int.{ints}
use Rattle.pt_value.specs.Calendar.{date_of, days_before}
use Rattle.pt_value.specs.Fits.{FitsDate}
use Rattle.pt_value.specs.Value.{value_cmp}
use Rattle.pt_value.specs.declared.value.Value.{Value}
use Rattle.pt_value.specs.declared.value.Value.TheVariants.{Null, Int, Day, Bytes}
use Rattle.pt_value.proofs.Dates.{date_of-late, days_before-lt_year, fitting_day}
use Rattle.pt_ast.specs.declared.tree.Func.{Func}
use Rattle.pt_ast.specs.declared.tree.Func.TheVariants as func
use Rattle.pt_ast.specs.declared.table.Bound.{Bound}
use Rattle.pt_ast.specs.declared.table.Bound.TheVariants.{Val}
use Rattle.pt_ast.specs.Bounds.{tuple_cmp}
use Rattle.pt_expr.specs.Values.{part_of_day}
use Rattle.pt_interval.specs.Instances.{above_int, at_most_int, is_int_read}
use Rattle.pt_reach.specs.Domains.{is_day}
use Rattle.pt_reach.specs.Kept.{is_year_or_days}
use Rattle.pt_reach.specs.Scales.{day_order, number_order}
use Rattle.pt_reach.proofs.Orders.{number_null}
use Rattle.pt_followed.specs.Places.{AreEnds, IsFirstDay, day_at, value_from}
use Rattle.pt_followed.specs.Steps.{IsNumberBound, come_to, is_below, is_from, number_bound}

-- ---- the year of a day rises

counts_rise : (x y a b : ℤ) (m n : ℕ) → a ≡ pos m → b ≡ pos n → a -ℤ pos 719_528 ≡ x → b -ℤ pos 719_528 ≡ y → x ≤ℤ y → m ≤ n
counts_rise x y a b m n at bt p q h = omega (arith, ints)

year_rises : (x y : ℤ) → FitsDate x → FitsDate y → x ≤ℤ y → (date_of x).year ≤ (date_of y).year
year_rises x y fits_x fits_y h =
    let dx = date_of x in
    let dy = date_of y in
    let more = counts_rise x y (pos (days_before dx)) (pos (days_before dy)) (days_before dx) (days_before dy) refl refl (fitting_day x fits_x) (fitting_day y fits_y) h in
    elim (cases_lt dy.year dx.year) [
      | inl less ↦ absurd (let wrong = days_before-lt_year dy.year dy.month dy.day dx.year dx.month dx.day (date_of-late y fits_y).is less in omega (arith, more, wrong))
      | inr least ↦ least
    ]

-- ---- places of days

place_fits : (day : ℤ) (place : ℕ) (z : ℤ) → z ≡ pos place → day ≡ z -ℤ pos 354_285 → place < 3_287_182 → FitsDate day
place_fits day place z at is within = (omega (arith, ints), omega (arith, ints))

pub day_fits : (place : ℕ) → place < 3_287_182 → FitsDate (day_at place)
unfolding day_at
day_fits place within = place_fits (pos place -ℤ pos 354_285) place (pos place) refl refl within

places_rise : (x y a b : ℤ) (m n : ℕ) → a ≡ pos m → b ≡ pos n → x ≡ a -ℤ pos 354_285 → y ≡ b -ℤ pos 354_285 → m ≤ n → x ≤ℤ y
places_rise x y a b m n at bt p q h = omega (arith, ints)

places_less : (x y a b : ℤ) (m n : ℕ) → a ≡ pos m → b ≡ pos n → x ≡ a -ℤ pos 354_285 → y ≡ b -ℤ pos 354_285 → m < n → x <ℤ y
places_less x y a b m n at bt p q h = omega (arith, ints)

pub days_rise : (m n : ℕ) → m ≤ n → day_at m ≤ℤ day_at n
unfolding day_at
days_rise m n h = places_rise (pos m -ℤ pos 354_285) (pos n -ℤ pos 354_285) (pos m) (pos n) m n refl refl refl refl h

pub day_less : (m n : ℕ) → m < n → day_at m <ℤ day_at n
unfolding day_at
day_less m n h = places_less (pos m -ℤ pos 354_285) (pos n -ℤ pos 354_285) (pos m) (pos n) m n refl refl refl refl h

place_of : (day z : ℤ) → z ≡ day +ℤ pos 354_285 → FitsDate day → (unsigned_abs z < 3_287_182) × (z ≡ pos (unsigned_abs z))
place_of day z is fits = let low = fits.0 in let high = fits.1 in (omega (arith, ints), omega (arith, ints))

back_to : (day z : ℤ) (a : ℤ) → z ≡ day +ℤ pos 354_285 → a ≡ z → day ≡ a -ℤ pos 354_285
back_to day z a is at = omega (arith, ints)

-- each day of DATE has one
pub day_place : (day : ℤ) → FitsDate day → (place : ℕ) × (place < 3_287_182) × (day ≡ day_at place)
unfolding day_at
day_place day fits =
    let z = day +ℤ pos 354_285 in
    let found = place_of day z refl fits in
    (unsigned_abs z, found.0, back_to day z (pos (unsigned_abs z)) refl (sym found.1))

-- ---- the function rises

pos_rises : (m n : ℕ) → m ≤ n → pos m ≤ℤ pos n
pos_rises m n h = omega (arith, ints)

sum_rises : (x y : ℤ) → x ≤ℤ y → (x +ℤ pos 719_528) ≤ℤ (y +ℤ pos 719_528)
sum_rises x y h = omega (arith, ints)

part_rises : (f : Func) (x y : ℤ) → is_year_or_days f ≡ true → FitsDate x → FitsDate y → x ≤ℤ y → part_of_day f x ≤ℤ part_of_day f y
part_rises func.Abs x y own fits_x fits_y h = absurd (false≢true own)
part_rises func.Year x y own fits_x fits_y h = pos_rises (date_of x).year (date_of y).year (year_rises x y fits_x fits_y h)
part_rises func.Month x y own fits_x fits_y h = absurd (false≢true own)
part_rises func.DayOfMonth x y own fits_x fits_y h = absurd (false≢true own)
part_rises func.DayOfYear x y own fits_x fits_y h = absurd (false≢true own)
part_rises func.DayOfWeek x y own fits_x fits_y h = absurd (false≢true own)
part_rises func.Weekday x y own fits_x fits_y h = absurd (false≢true own)
part_rises func.Quarter x y own fits_x fits_y h = absurd (false≢true own)
part_rises func.ToDays x y own fits_x fits_y h = sum_rises x y h

value_rises : (f : Func) (m n : ℕ) → is_year_or_days f ≡ true → m ≤ n → n < 3_287_182 → value_from f m ≤ℤ value_from f n
value_rises f m n own h within = part_rises f (day_at m) (day_at n) own (day_fits m (omega (arith, h, within))) (day_fits n within) (days_rise m n h)

chain_less : (a b c : ℤ) → a ≤ℤ b → b <ℤ c → a <ℤ c
chain_less a b c p q = omega (arith, ints)

chain_most : (a b c : ℤ) → a ≤ℤ b → b ≤ℤ c → a ≤ℤ c
chain_most a b c p q = omega (arith, ints)

-- the first place is behind the middle, or it isn't
pub ends_behind : (f : Func) (number : ℤ) (low high middle : ℕ) → is_year_or_days f ≡ true → AreEnds (value_from f) number low high → low ≤ middle → middle < high → value_from f middle <ℤ number → AreEnds (value_from f) number (middle + 1) high
ends_behind f number low high middle own ends after before less = record {
  order = omega (arith, before);
  few = ends.few;
  below = λ place h. chain_less (value_from f place) (value_from f middle) number (value_rises f place middle own (omega (arith, h)) (let few = ends.few in omega (arith, before, few))) less;
  above = ends.above;
}

pub ends_before : (f : Func) (number : ℤ) (low high middle : ℕ) → is_year_or_days f ≡ true → AreEnds (value_from f) number low high → low ≤ middle → middle < high → number ≤ℤ value_from f middle → AreEnds (value_from f) number low middle
ends_before f number low high middle own ends after before most = record {
  order = after;
  few = let few = ends.few in omega (arith, before, few);
  below = ends.below;
  above = λ place h within. chain_most number (value_from f middle) (value_from f place) most (value_rises f middle place own h within);
}

pub ends_begin : (f : Func) (number : ℤ) → AreEnds (value_from f) number 0 3_287_182
ends_begin f number = record {
  order = omega arith;
  few = omega arith;
  below = λ place h. absurd (omega (arith, h));
  above = λ place h within. absurd (omega (arith, h, within));
}

pub ends_met : (f : Func) (number : ℤ) (low high : ℕ) → high ≤ low → AreEnds (value_from f) number low high → AreEnds (value_from f) number low low
ends_met f number low high met ends =
    let order = ends.order in
    let same : high ≡ low = omega (arith, met, order) in
    subst (λ (h : ℕ). AreEnds (value_from f) number low h) same ends

-- ---- a value and the first day

pub come_null : (f : Func) → is_year_or_days f ≡ true → come_to (Some f) Null ≡ Null
come_null func.Abs own = absurd (false≢true own)
come_null func.Year own = refl
come_null func.Month own = absurd (false≢true own)
come_null func.DayOfMonth own = absurd (false≢true own)
come_null func.DayOfYear own = absurd (false≢true own)
come_null func.DayOfWeek own = absurd (false≢true own)
come_null func.Weekday own = absurd (false≢true own)
come_null func.Quarter own = absurd (false≢true own)
come_null func.ToDays own = refl

pub come_day : (f : Func) (day : ℤ) → is_year_or_days f ≡ true → come_to (Some f) (Day day) ≡ Int (part_of_day f day)
come_day func.Abs day own = absurd (false≢true own)
come_day func.Year day own = refl
come_day func.Month day own = absurd (false≢true own)
come_day func.DayOfMonth day own = absurd (false≢true own)
come_day func.DayOfYear day own = absurd (false≢true own)
come_day func.DayOfWeek day own = absurd (false≢true own)
come_day func.Weekday day own = absurd (false≢true own)
come_day func.Quarter day own = absurd (false≢true own)
come_day func.ToDays day own = refl

turned_ge : (o : Ordering) → is_ge (ordering_reverse o) ≡ is_le o
turned_ge Less = refl
turned_ge Equal = refl
turned_ge Greater = refl

then_most : (o : Ordering) → not (is_gt (ordering_then o Equal)) ≡ is_le o
then_most Less = refl
then_most Equal = refl
then_most Greater = refl

ge_turned : (d e : ℤ) → is_ge (int_cmp d e) ≡ is_le (int_cmp e d)
ge_turned d e = ap is_ge (int_cmp_total.antisymm d e) ∙ turned_ge (int_cmp e d)

null_day : (day : ℤ) → value_cmp Null (Day day) ≡ Less
unfolding value_cmp
null_day day = refl

module _ (f : Func) (own : is_year_or_days f ≡ true) (n : ℤ) (first : ℕ) (ends : AreEnds (value_from f) n first first) where
  same_side : (place : ℕ) → place < 3_287_182 → is_le (int_cmp (day_at first) (day_at place)) ≡ is_le (int_cmp n (value_from f place))
  same_side place within = elim (cases_lt place first) [
    | inl less ↦ above_int (day_at first) (day_at place) (day_less place first less) ∙ sym (above_int n (value_from f place) (ends.below place less))
    | inr most ↦ at_most_int (day_at first) (day_at place) (days_rise first place most) ∙ sym (at_most_int n (value_from f place) (ends.above place most within))
  ]

  day_same : (day : ℤ) → FitsDate day → is_le (int_cmp (day_at first) day) ≡ is_le (int_cmp n (part_of_day f day))
  day_same day fits =
      let at = day_place day fits in
      subst (λ (d : ℤ). is_le (int_cmp (day_at first) d) ≡ is_le (int_cmp n (part_of_day f d))) (sym at.2) (same_side at.0 at.1)

  from_it : (v : Value) → not (is_gt (tuple_cmp (Val (Int n) ∷ []) (Val v ∷ []))) ≡ is_le (value_cmp (Int n) v)
  from_it v = then_most (value_cmp (Int n) v)

  pub first_from : (v : Value) → is_day v ≡ true → is_ge (value_cmp v (Day (day_at first))) ≡ is_from (Some (Val (Int n) ∷ [])) (come_to (Some f) v ∷ [])
  first_from Null is =
      ap is_ge (null_day (day_at first))
      ∙ sym (ap (λ (w : Value). not (is_gt (tuple_cmp (Val (Int n) ∷ []) (Val w ∷ [])))) (come_null f own) ∙ from_it Null ∙ ap is_le (number_null n))
  first_from (Int m) is = absurd (false≢true is)
  first_from (Day day) is =
      let inside = is_int_read (neg_ℤ (pos 354_285)) (pos 2_932_896) day is in
      ap is_ge (day_order day (day_at first)) ∙ ge_turned day (day_at first) ∙ day_same day (inside.0, inside.1)
      ∙ sym (ap (λ (w : Value). not (is_gt (tuple_cmp (Val (Int n) ∷ []) (Val w ∷ [])))) (come_day f day own) ∙ from_it (Int (part_of_day f day)) ∙ ap is_le (number_order n (part_of_day f day)))
  first_from (Bytes bytes) is = absurd (false≢true is)

lt_is : (o : Ordering) → is_lt o ≡ not (is_ge o)
lt_is Less = refl
lt_is Equal = refl
lt_is Greater = refl

not_twice : (b : Bool) → not (not b) ≡ b
not_twice true = refl
not_twice false = refl

-- ---- the sides of a bound

module _ (f : Func) (own : is_year_or_days f ≡ true) (number day passed : ℤ) (first : IsFirstDay f number day) (bounds : List Bound) (same : passed ≡ day) where
  pub from_first : (IsNumberBound bounds → bounds ≡ number_bound (Some number)) → (v : Value) → IsNumberBound bounds → is_day v ≡ true → is_ge (value_cmp v (Day passed)) ≡ is_from (Some bounds) (come_to (Some f) v ∷ [])
  from_first told v is day_v =
      ap (λ (d : ℤ). is_ge (value_cmp v (Day d))) (same ∙ first.2) ∙ first_from f own number first.0 first.1 v day_v ∙ ap (λ (b : List Bound). is_from (Some b) (come_to (Some f) v ∷ [])) (sym (told is))

  pub below_first : (IsNumberBound bounds → bounds ≡ number_bound (Some number)) → (v : Value) → IsNumberBound bounds → is_day v ≡ true → is_lt (value_cmp v (Day passed)) ≡ is_below (Some bounds) (come_to (Some f) v ∷ [])
  below_first told v is day_v = lt_is (value_cmp v (Day passed)) ∙ ap not (from_first told v is day_v) ∙ not_twice (is_below (Some bounds) (come_to (Some f) v ∷ []))

pub from_max : (bounds : List Bound) → (IsNumberBound bounds → bounds ≡ number_bound None) → (b : Bool) → b ≡ false → IsNumberBound bounds → (w : Value) → b ≡ is_from (Some bounds) (w ∷ [])
from_max bounds told b none is w = none ∙ ap (λ (x : List Bound). is_from (Some x) (w ∷ [])) (sym (told is))

pub below_max : (bounds : List Bound) → (IsNumberBound bounds → bounds ≡ number_bound None) → (b : Bool) → b ≡ true → IsNumberBound bounds → (w : Value) → b ≡ is_below (Some bounds) (w ∷ [])
below_max bounds told b every is w = every ∙ ap (λ (x : List Bound). is_below (Some x) (w ∷ [])) (sym (told is))

-- ---- numbers that are passed on by way of their bits

pub ends_on : (f : Func) (number passed : ℤ) (low high : ℕ) → passed ≡ number → AreEnds (value_from f) number low high → AreEnds (value_from f) passed low high
ends_on f number passed low high same ends = subst (λ (n : ℤ). AreEnds (value_from f) n low high) (sym same) ends

pub ends_off : (f : Func) (number passed : ℤ) (low high : ℕ) → passed ≡ number → AreEnds (value_from f) passed low high → AreEnds (value_from f) number low high
ends_off f number passed low high same ends = subst (λ (n : ℤ). AreEnds (value_from f) n low high) same ends

pub day_passed : (place : ℕ) (day passed : ℤ) → passed ≡ day → day ≡ day_at place → place < 3_287_182 → FitsDate passed
day_passed place day passed same is within = subst FitsDate (sym (same ∙ is)) (day_fits place within)

pub first_off : (f : Func) (number passed day : ℤ) → IsFirstDay f passed day → passed ≡ number → IsFirstDay f number day
first_off f number passed day first same = (first.0, ends_off f number passed first.0 first.0 same first.1, first.2)
