-- The calendar's walk from date to date and its count of days lead to the same dates.
use Rattle.std.proofs.Common.{◌≡◌, ◌↔◌, ℕ, zero, suc, ◌+◌, ◌-◌, ◌<◌, ◌≤◌, nat_lt, refl, sym, ap, subst, ◌∙◌, arith, ℤ, pos, neg_ℤ, ◌+ℤ◌, ◌-ℤ◌, ◌≤ℤ◌, unsigned_abs, inl, inr}
use Rattle.std.proofs.lemmas.Bool.{cases_order, cond_both, ltb-true, ltb-false}
use Rattle.std.proofs.lemmas.Int.{ints}
use Rattle.std.specs.Int.{IsInRange}
use Rattle.pt_value.specs.Fits.{FitsDate}
use Rattle.pt_value.specs.Calendar.{day_of_year, days_in_month, Date, IsDate, days_of_months, days_of_years, days_before, day_number, next_date, date_after, date_of}

pub days_of_months-suc : (y n : ℕ) → days_of_months y (suc n) ≡ days_of_months y n + days_in_month y (suc n)
unfolding days_of_months
days_of_months-suc y n = refl

pub days_of_months-none : (y : ℕ) → days_of_months y 0 ≡ 0
unfolding days_of_months
days_of_months-none y = refl

days_before-first : days_before (record { year = 0; month = 1; day = 1 }) ≡ 0
unfolding days_of_months days_of_years
days_before-first = refl

pub days_of_years-suc : (y : ℕ) → days_of_years (suc y) ≡ days_of_years y + days_of_months y 12
unfolding days_of_years
days_of_years-suc y = refl

pub days_in_month_bounds : (y m : ℕ) → (28 ≤ days_in_month y m) × (days_in_month y m ≤ 31)
days_in_month_bounds y m = grind arith

abbrev pub date : ℕ → ℕ → ℕ → Date
date y m d = record { year = y; month = m; day = d }

-- the date after a date, and how many days come before it
pub record IsNext (d n : Date) : Type 0 where
  pub is : IsDate n
  pub count : days_before n ≡ suc (days_before d)

next_in_month : (y m d : ℕ) → IsDate (date y m d) → d < days_in_month y m → IsNext (date y m d) (date y m (suc d))
next_in_month y m d h below = record { is = record { month_in = h.month_in; day_in = (omega arith, omega arith) }; count = let low = h.day_in.0 in omega arith }

next_month : (y m d : ℕ) → IsDate (date y m d) → days_in_month y m ≤ d → m < 12 → IsNext (date y m d) (date y (suc m) 1)
next_month y m d h past below =
    let last : d ≡ days_in_month y m = let high = h.day_in.1 in omega arith in
    let back : suc m - 1 ≡ m = omega arith in
    let up : suc (m - 1) ≡ m = let low = h.month_in.0 in omega arith in
    let more = rw up at (days_of_months-suc y (m - 1)) in
    record {
      is = record { month_in = (omega arith, omega arith); day_in = (omega arith, omega (arith, days_in_month_bounds y (suc m))) };
      count = let low = h.day_in.0 in rw back (omega (arith, more));
    }

next_year : (y m d : ℕ) → IsDate (date y m d) → days_in_month y m ≤ d → 12 ≤ m → IsNext (date y m d) (date (suc y) 1 1)
next_year y m d h past december =
    let last : d ≡ days_in_month y m = let high = h.day_in.1 in omega arith in
    let up : suc (m - 1) ≡ m = let low = h.month_in.0 in omega arith in
    let is_december : m ≡ 12 = let high = h.month_in.1 in omega arith in
    let more = rw up at (days_of_months-suc y (m - 1)) in
    record {
      is = record { month_in = (omega arith, omega arith); day_in = (omega arith, omega (arith, days_in_month_bounds (suc y) 1)) };
      count = let low = h.day_in.0 in omega (arith, more, days_of_years-suc y, ap (days_of_months y) is_december, days_of_months-none (suc y));
    }

pub next_date-next : (d : Date) → IsDate d → IsNext d (next_date d)
next_date-next d h =
    cond_both (nat_lt d.day (days_in_month d.year d.month)) _ _ (IsNext d)
    (λ yes. next_in_month d.year d.month d.day h (ltb-true d.day _ yes))
    (λ no. cond_both (nat_lt d.month 12) _ _ (IsNext d)
    (λ yes. next_month d.year d.month d.day h (ltb-false d.day _ no) (ltb-true d.month 12 yes))
    (λ late. next_year d.year d.month d.day h (ltb-false d.day _ no) (ltb-false d.month 12 late)))

-- the date n days after 0000-01-01 is one, and n days come before it
pub record IsAfter (n : ℕ) (d : Date) : Type 0 where
  pub is : IsDate d
  pub count : days_before d ≡ n

pub date_after-after : (n : ℕ) → IsAfter n (date_after n)
unfolding date_after
date_after-after zero = record { is = record { month_in = (omega arith, omega arith); day_in = (omega arith, omega (arith, days_in_month_bounds 0 1)) }; count = days_before-first }
date_after-after (suc n) =
    let before = date_after-after n in
    let next = next_date-next (date_after n) before.is in
    record { is = next.is; count = next.count ∙ ap suc before.count }

days_of_months-rise : (y m k : ℕ) → days_of_months y m ≤ days_of_months y (k + m)
days_of_months-rise y m zero = let same : 0 + m ≡ m = omega arith in rw same (omega arith)
days_of_months-rise y m (suc k) =
    let next : suc k + m ≡ suc (k + m) = omega arith in
    rw next (omega (arith, days_of_months-rise y m k, days_of_months-suc y (k + m)))

pub days_of_months-mono : (y m n : ℕ) → m ≤ n → days_of_months y m ≤ days_of_months y n
days_of_months-mono y m n h = let e : n - m + m ≡ n = omega arith in rw e at (days_of_months-rise y m (n - m))

days_of_years-rise : (y k : ℕ) → days_of_years y ≤ days_of_years (k + y)
days_of_years-rise y zero = let same : 0 + y ≡ y = omega arith in rw same (omega arith)
days_of_years-rise y (suc k) =
    let next : suc k + y ≡ suc (k + y) = omega arith in
    rw next (omega (arith, days_of_years-rise y k, days_of_years-suc (k + y)))

pub days_of_years-mono : (y z : ℕ) → y ≤ z → days_of_years y ≤ days_of_years z
days_of_years-mono y z h = let e : z - y + y ≡ z = omega arith in rw e at (days_of_years-rise y (z - y))

-- a date lies among the days of its month
day_of_year-month : (y m d : ℕ) → IsDate (date y m d) → days_of_months y (m - 1) + d ≤ days_of_months y m
day_of_year-month y m d h =
    let up : suc (m - 1) ≡ m = let low = h.month_in.0 in omega arith in
    let more = rw up at (days_of_months-suc y (m - 1)) in
    let high = h.day_in.1 in
    omega (arith, more)

-- and of its year
pub day_of_year-year : (y m d : ℕ) → IsDate (date y m d) → day_of_year (date y m d) ≤ days_of_months y 12
day_of_year-year y m d h = omega (arith, day_of_year-month y m d h, days_of_months-mono y m 12 h.month_in.1)

days_before-year : (y m d : ℕ) → IsDate (date y m d) → days_before (date y m d) < days_of_years (suc y)
days_before-year y m d h =
    let low = h.day_in.0 in
    omega (arith, day_of_year-month y m d h, days_of_months-mono y m 12 h.month_in.1, days_of_years-suc y)

-- a date of an earlier year comes before
pub days_before-lt_year : (y m d z n e : ℕ) → IsDate (date y m d) → y < z → days_before (date y m d) < days_before (date z n e)
days_before-lt_year y m d z n e h lt = omega (arith, days_before-year y m d h, days_of_years-mono (suc y) z (omega arith))

days_before-lt_month : (y m d n e : ℕ) → IsDate (date y m d) → IsDate (date y n e) → m < n → days_before (date y m d) < days_before (date y n e)
days_before-lt_month y m d n e h k lt =
    let low = h.day_in.0 in
    let first = k.day_in.0 in
    omega (arith, day_of_year-month y m d h, days_of_months-mono y m (n - 1) (omega arith))

same_day : (y m d e : ℕ) → IsDate (date y m d) → IsDate (date y m e) → days_before (date y m d) ≡ days_before (date y m e) → d ≡ e
same_day y m d e h k same = let low = h.day_in.0 in let first = k.day_in.0 in omega arith

same_year : (y m d z n e : ℕ) → IsDate (date y m d) → IsDate (date z n e) → days_before (date y m d) ≡ days_before (date z n e) → y ≡ z
same_year y m d z n e h k same = elim (cases_order y z) [
  | inl at ↦ at
  | inr (inl lt) ↦ absurd (omega (arith, days_before-lt_year y m d z n e h lt))
  | inr (inr gt) ↦ absurd (omega (arith, days_before-lt_year z n e y m d k gt))
]

same_month : (y m d n e : ℕ) → IsDate (date y m d) → IsDate (date y n e) → days_before (date y m d) ≡ days_before (date y n e) → m ≡ n
same_month y m d n e h k same = elim (cases_order m n) [
  | inl at ↦ at
  | inr (inl lt) ↦ absurd (omega (arith, days_before-lt_month y m d n e h k lt))
  | inr (inr gt) ↦ absurd (omega (arith, days_before-lt_month y n e m d k h gt))
]

-- a date is told by how many days come before it
pub one_date : (a b : Date) → IsDate a → IsDate b → days_before a ≡ days_before b → a ≡ b
one_date a b h k same =
    let y = same_year a.year a.month a.day b.year b.month b.day h k same in
    one_of_year a b y h k same
  where
    one_of_month : (y m d e : ℕ) → IsDate (date y m d) → IsDate (date y m e) → days_before (date y m d) ≡ days_before (date y m e) → date y m d ≡ date y m e
    one_of_month y m d e h k same = ap (date y m) (same_day y m d e h k same)

    one_in_year : (y m d n e : ℕ) → m ≡ n → IsDate (date y m d) → IsDate (date y n e) → days_before (date y m d) ≡ days_before (date y n e) → date y m d ≡ date y n e
    one_in_year y m d n e at = subst (λ n. IsDate (date y m d) → IsDate (date y n e) → days_before (date y m d) ≡ days_before (date y n e) → date y m d ≡ date y n e) at (one_of_month y m d e)

    one_of_year : (a b : Date) → a.year ≡ b.year → IsDate a → IsDate b → days_before a ≡ days_before b → a ≡ b
    one_of_year a b at = subst (λ z. IsDate a → IsDate (date z b.month b.day) → days_before a ≡ days_before (date z b.month b.day) → a ≡ date z b.month b.day) at
        (λ h k same. one_in_year a.year a.month a.day b.month b.day (same_month a.year a.month a.day b.month b.day h k same) h k same)

to_day : (day a : ℤ) (n : ℕ) → a ≡ pos n → n ≡ unsigned_abs (day +ℤ pos 719_528) → neg_ℤ (pos 719_528) ≤ℤ day → a -ℤ pos 719_528 ≡ day
to_day day a n at is low = omega (arith, ints)

from_day : (day a : ℤ) (n : ℕ) → a ≡ pos n → day ≡ a -ℤ pos 719_528 → unsigned_abs (day +ℤ pos 719_528) ≡ n
from_day day a n at is = omega (arith, ints)

-- Each day from 0000-01-01 on has its date, whose day number it is ..
pub date_of_day : (day : ℤ) → neg_ℤ (pos 719_528) ≤ℤ day → IsDate (date_of day) × (day_number (date_of day) ≡ day)
date_of_day day low =
    let at = date_after-after (unsigned_abs (day +ℤ pos 719_528)) in
    (at.is, to_day day (pos (days_before (date_of day))) (days_before (date_of day)) refl at.count low)

-- .. and each date is that of its day number.
pub day_of_date : (d : Date) → IsDate d → date_of (day_number d) ≡ d
day_of_date d h =
    let at = date_after-after (unsigned_abs (day_number d +ℤ pos 719_528)) in
    one_date (date_of (day_number d)) d at.is h (at.count ∙ from_day (day_number d) (pos (days_before d)) (days_before d) refl refl)

-- 1970-01-01 is day 0
epoch : day_number (date 1970 1 1) ≡ pos 0
unfolding days_of_months days_of_years
epoch = refl

pub date_of_zero : date_of (pos 0) ≡ date 1970 1 1
date_of_zero = sym (ap date_of epoch) ∙ day_of_date (date 1970 1 1) (record { month_in = (omega arith, omega arith); day_in = (omega arith, omega (arith, days_in_month_bounds 1970 1)) })

-- 365,243 days come before the year 1000
days_of_years-1000 : days_of_years 1000 ≡ 365_243
unfolding days_of_months days_of_years
days_of_years-1000 = refl

days_of_years-10000 : days_of_years 10000 ≡ 3_652_425
unfolding days_of_months days_of_years
days_of_years-10000 = refl

-- The dates of the years 1000 to 9999 are those of the days that fit DATE.
pub record IsLate (d : Date) : Type 0 where
  pub is : IsDate d
  pub first : 1000 ≤ d.year
  pub last : d.year < 10000

count_from : (y m d : ℕ) → IsDate (date y m d) → 1000 ≤ y → 365_243 ≤ days_before (date y m d)
count_from y m d h first = omega (arith, days_of_years-mono 1000 y first, days_of_years-1000)

count_to : (y m d : ℕ) → IsDate (date y m d) → y < 10000 → days_before (date y m d) < 3_652_425
count_to y m d h last = omega (arith, days_before-year y m d h, days_of_years-mono (suc y) 10000 (omega arith), days_of_years-10000)

year_from : (y m d : ℕ) → IsDate (date y m d) → 365_243 ≤ days_before (date y m d) → 1000 ≤ y
year_from y m d h first = elim (cases_order y 1000) [
  | inl at ↦ omega arith
  | inr (inl lt) ↦ absurd (omega (arith, days_before-year y m d h, days_of_years-mono (suc y) 1000 (omega arith), days_of_years-1000))
  | inr (inr gt) ↦ omega arith
]

year_to : (y m d : ℕ) → IsDate (date y m d) → days_before (date y m d) < 3_652_425 → y < 10000
year_to y m d h last = elim (cases_order y 10000) [
  | inl at ↦ absurd (omega (arith, ap days_of_years at, days_of_years-10000))
  | inr (inl lt) ↦ lt
  | inr (inr gt) ↦ absurd (omega (arith, days_of_years-mono 10000 y (omega arith), days_of_years-10000))
]

fits : (day a : ℤ) (n : ℕ) → a ≡ pos n → day ≡ a -ℤ pos 719_528 → 365_243 ≤ n → n < 3_652_425 → FitsDate day
fits day a n at is low high = (omega (arith, ints), omega (arith, ints))

fitting : (day a : ℤ) (n : ℕ) → FitsDate day → a ≡ pos n → a -ℤ pos 719_528 ≡ day → (365_243 ≤ n) × (n < 3_652_425)
fitting day a n h at is = (omega (arith, ints), omega (arith, ints))

pub fits_date : (d : Date) → IsLate d → FitsDate (day_number d)
fits_date d h =
    fits (day_number d) (pos (days_before d)) (days_before d) refl refl (count_from d.year d.month d.day h.is h.first) (count_to d.year d.month d.day h.is h.last)

pub date_of-late : (day : ℤ) → FitsDate day → IsLate (date_of day)
date_of-late day h =
    let at = date_of_day day (omega (arith, ints, h.0)) in
    let range = fitting day (pos (days_before (date_of day))) (days_before (date_of day)) h refl at.1 in
    let d = date_of day in
    record { is = at.0; first = year_from d.year d.month d.day at.0 range.0; last = year_to d.year d.month d.day at.0 range.1 }

pub fitting_day : (day : ℤ) → FitsDate day → day_number (date_of day) ≡ day
fitting_day day h = (date_of_day day (omega (arith, ints, h.0))).1

-- the days that fit DATE are those of the years 1000 to 9999
pub fits_exactly : (d : Date) → IsDate d → FitsDate (day_number d) ↔ IsInRange 1000 9999 d.year
fits_exactly d h = (
  (λ fitting.
      let late : IsLate d = subst IsLate (day_of_date d h) (date_of-late (day_number d) fitting) in
      (late.first, (let last = late.last in omega arith))),
  (λ years. fits_date d (record { is = h; first = years.0; last = (let last = years.1 in omega arith) })),
)
