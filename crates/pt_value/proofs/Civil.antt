-- The kit's calendar has the same dates.
use Rattle.std.proofs.Common.{◌≡◌, ℕ, zero, suc, ◌+◌, ◌-◌, ◌%◌, ◌<◌, ◌≤◌, ◌-ℤ◌, refl, sym, ap, subst, ◌∙◌, arith, ℤ, pos, negsuc, neg_ℤ, ◌+ℤ◌, ◌≤ℤ◌, unsigned_abs}
use Rattle.jiff_core.specs.Calendar.{IsCivilDate, days_from_civil, weekday_number, days_of_months as civil_months, day_of_year as civil_day_of_year, day_count}
use Rattle.std.proofs.lemmas.Int.{ints}
use Rattle.jiff_core.proofs.SignedLemmas.{signed_arith}
use Rattle.jiff_core.proofs.MarchLemmas.{day_count-early}
use Rattle.jiff_core.specs.Date.{epoch_day, ordinal, IsYmd}
use Rattle.jiff_core.specs.declared.civil.date.Date.{Date as Plain}
use Rattle.jiff_core.proofs.DateLemmas.{civil}
use Rattle.jiff_core.proofs.CalendarLemmas.{weekday_number-parts, days_from_civil-day_count, days_of_months_all, day_count-day_of_year, day_count-next_year, day_count-lt_year}
use borrow.Author.Differences.{up, down}
use Rattle.pt_value.specs.Digits.{IsDayOf}
use Rattle.pt_value.specs.Calendar.{days_in_month, Date, days_of_months, days_of_years, day_of_year, days_before, day_number, IsDate, date_of, days_after_monday, days_after_sunday}
use Rattle.pt_value.proofs.Dates.{date, date_after-after, day_of_date, fits_date, one_date}

pub civil_months-same : (y n : ℕ) → civil_months (pos y) n ≡ days_of_months y n
unfolding civil_months days_of_months
civil_months-same y zero = refl
civil_months-same y (suc n) = ap (λ k. k + days_in_month y (suc n)) (civil_months-same y n)

-- the kit counts from 1 January of the year -10000, which is 3,652,425 days before the year 0
zero_year : day_count (pos 0) 1 1 ≡ 3_652_425
zero_year = day_count-early (pos 0) 9999 1 1 refl (omega arith) (omega arith) (omega arith)

first_of_year : (y : ℕ) → day_count (pos y) 1 1 ≡ 3_652_425 + days_of_years y
unfolding days_of_years
first_of_year zero = zero_year
first_of_year (suc y) =
    omega (arith, day_count-next_year (pos y) (pos (suc y)) (omega (arith, signed_arith)) (omega (arith, signed_arith)), first_of_year y, days_of_months_all (pos y), civil_months-same y 12)

day_count-same : (y m d : ℕ) → 1 ≤ d → day_count (pos y) m d ≡ 3_652_425 + days_before (date y m d)
day_count-same y m d first = omega (arith, day_count-day_of_year (pos y) m d first, first_of_year y, civil_months-same y (m - 1))

-- no year of a day from 0000-01-01 on is negative
year-pos : (y : ℤ) (m d : ℕ) → IsCivilDate y m d → neg_ℤ (pos 354_285) ≤ℤ days_from_civil y m d → y ≡ pos (unsigned_abs y)
year-pos (pos y) m d h low = refl
year-pos (negsuc k) m d h low =
    let before = day_count-lt_year (negsuc k) m d (pos 0) 1 1 h (omega arith) (omega (arith, signed_arith)) in
    absurd (omega (arith, signed_arith, before, zero_year, days_from_civil-day_count (negsuc k) m d))

-- A date of the kit's calendar whose day number is this day is the date of the day.
date-same : (y m d : ℕ) (day : ℤ) → IsCivilDate (pos y) m d → neg_ℤ (pos 354_285) ≤ℤ day → days_from_civil (pos y) m d ≡ day → date y m d ≡ date_of day
date-same y m d day h low same =
    let at = date_after-after (unsigned_abs (day +ℤ pos 719_528)) in
    let n = unsigned_abs (day +ℤ pos 719_528) in
    let count : days_before (date y m d) ≡ n = omega (arith, ints, days_from_civil-day_count (pos y) m d, day_count-same y m d h.2.0) in
    one_date (date y m d) (date_of day) (record { month_in = h.1; day_in = h.2 }) at.is (count ∙ sym at.count)

-- what the kit's date of a day has
pub record IsDateOf (day : ℤ) (j : Plain) : Type 0 where
  pub ymd : IsYmd (pos (date_of day).year) (pos (date_of day).month) (pos (date_of day).day) j
  pub place : ordinal j ≡ day_of_year (date_of day)

pub is_date_of : (day : ℤ) (j : Plain) → neg_ℤ (pos 354_285) ≤ℤ day → epoch_day j ≡ day → IsDateOf day j
is_date_of day j low same =
    let h = civil j in
    let y : j.year ≡ pos (unsigned_abs j.year) = year-pos j.year j.month j.day h (subst (λ z. neg_ℤ (pos 354_285) ≤ℤ z) (sym same) low) in
    let k : IsCivilDate (pos (unsigned_abs j.year)) j.month j.day = subst (λ z. IsCivilDate z j.month j.day) y h in
    let at : days_from_civil (pos (unsigned_abs j.year)) j.month j.day ≡ day = ap (λ z. days_from_civil z j.month j.day) (sym y) ∙ same in
    let one = date-same (unsigned_abs j.year) j.month j.day day k low at in
    record {
      ymd = (y ∙ ap (λ (d : Date). pos d.year) one, ap (λ (d : Date). pos d.month) one, ap (λ (d : Date). pos d.day) one);
      place = ap (λ z. civil_day_of_year z j.month j.day) y
          ∙ ap (λ n. n + j.day) (civil_months-same (unsigned_abs j.year) (j.month - 1))
          ∙ ap (λ (d : Date). day_of_year d) one;
    }

pub weekday_number-monday : (day : ℤ) → pos (weekday_number day) ≡ days_after_monday day
unfolding weekday_number
weekday_number-monday day = omega (arith, signed_arith)

pub weekday_number-sunday : (day : ℤ) → pos ((weekday_number day + 1) % 7) ≡ days_after_sunday day
weekday_number-sunday day = omega (arith, signed_arith, weekday_number-parts day)

-- A date that the kit's calendar has, of the years 1000 to 9999, is the date of its day number, which fits DATE.
number-same : (y m d : ℕ) → 1 ≤ d → days_from_civil (pos y) m d ≡ day_number (date y m d)
number-same y m d first = to_number (days_from_civil (pos y) m d) (pos (days_before (date y m d))) (day_count (pos y) m d) (days_before (date y m d)) refl (days_from_civil-day_count (pos y) m d) (day_count-same y m d first)
  where
    to_number : (z a : ℤ) (k n : ℕ) → a ≡ pos n → up z + 4_371_953 ≡ down z + k → k ≡ 3_652_425 + n → z ≡ a -ℤ pos 719_528
    to_number z a k n at count same = omega (arith, ints)

pub is_day_of : (y m d : ℕ) → IsCivilDate (pos y) m d → 1000 ≤ y → y < 10000 → IsDayOf (date y m d) (days_from_civil (pos y) m d)
is_day_of y m d h first last =
    let is : IsDate (date y m d) = record { month_in = h.1; day_in = h.2 } in
    subst (IsDayOf (date y m d)) (sym (number-same y m d h.2.0)) (record { fits = fits_date (date y m d) (record { is = is; first = first; last = last }); date_is = day_of_date (date y m d) is })

pub is_day_of_date : (j : Plain) (y m d : ℕ) (day : ℤ) → j.year ≡ pos y → j.month ≡ m → j.day ≡ d → day ≡ epoch_day j → 1000 ≤ y → y < 10000 → IsDayOf (date y m d) day
is_day_of_date j y m d day year month place number first last =
    let h : IsCivilDate (pos y) m d =
    subst (λ z. IsCivilDate (pos y) m z) place (subst (λ z. IsCivilDate (pos y) z j.day) month (subst (λ z. IsCivilDate z j.month j.day) year (civil j))) in
    let at : days_from_civil (pos y) m d ≡ day =
    sym (number ∙ ap (λ z. days_from_civil z j.month j.day) year ∙ ap (λ z. days_from_civil (pos y) z j.day) month ∙ ap (λ z. days_from_civil (pos y) m z) place) in
    subst (IsDayOf (date y m d)) at (is_day_of y m d h first last)
