-- How large the parts of a day that fits DATE are, and that its year rises with it.
use Rattle.std.proofs.Common.{◌≡◌, ℕ, ◌≤◌, inl, inr, refl, arith, ℤ, pos, ◌-ℤ◌, ◌≤ℤ◌}
use Rattle.std.specs.Int.{IsInRange}
use Rattle.std.proofs.lemmas.Bool.{cases_order}
use Rattle.std.proofs.lemmas.Int.{ints}
use Rattle.jiff_core.proofs.CalendarLemmas.{days_in_year_bounds, days_of_months_all}
use Rattle.jiff_core.proofs.SignedLemmas.{signed_arith}
use Rattle.pt_value.specs.Fits.{FitsDate, IsBetween}
use Rattle.pt_value.specs.Calendar.{date_of, day_of_year, days_after_monday, days_after_sunday, days_before, quarter_of}
use Rattle.pt_value.proofs.Civil.{civil_months-same}
use Rattle.pt_value.proofs.Dates.{IsLate, date_of-late, day_of_year-year, days_before-lt_year, days_in_month_bounds, fitting_day}

pub record AreParts (day : ℤ) : Type 0 where
  pub year : IsInRange 1000 9999 (date_of day).year
  pub month : IsInRange 1 12 (date_of day).month
  pub day_of_month : IsInRange 1 31 (date_of day).day
  pub place : IsInRange 1 366 (day_of_year (date_of day))
  pub quarter : IsInRange 1 4 (quarter_of (date_of day).month)
  pub monday : IsBetween (pos 0) (pos 6) (days_after_monday day)
  pub sunday : IsBetween (pos 0) (pos 6) (days_after_sunday day)

place : (y m d : ℕ) → IsLate (record { year = y; month = m; day = d }) → IsInRange 1 366 (day_of_year (record { year = y; month = m; day = d }))
place y m d h =
    let first = h.is.day_in.0 in
    (omega arith, omega (arith, day_of_year-year y m d h.is, civil_months-same y 12, days_of_months_all (pos y), days_in_year_bounds (pos y)))

pub are_parts : (day : ℤ) → FitsDate day → AreParts day
are_parts day h =
    let late = date_of-late day h in
    let d = date_of day in
    let month = late.is.month_in in
    record {
      year = (late.first, (let last = late.last in omega arith));
      month = month;
      day_of_month = (late.is.day_in.0, (let high = late.is.day_in.1 in omega (arith, days_in_month_bounds d.year d.month)));
      place = place d.year d.month d.day late;
      quarter = (omega arith, omega arith);
      monday = (omega (arith, signed_arith), omega (arith, signed_arith));
      sunday = (omega (arith, signed_arith), omega (arith, signed_arith));
    }

order : (a b x y : ℤ) (m n : ℕ) → x ≡ pos m → y ≡ pos n → x -ℤ pos 719_528 ≡ a → y -ℤ pos 719_528 ≡ b → a ≤ℤ b → m ≤ n
order a b x y m n first second at to le = omega (arith, ints)

-- a later day has no earlier year
pub year-mono : (a b : ℤ) → FitsDate a → FitsDate b → a ≤ℤ b → (date_of a).year ≤ (date_of b).year
year-mono a b h k le =
    let x = date_of a in
    let y = date_of b in
    let counts = order a b (pos (days_before x)) (pos (days_before y)) (days_before x) (days_before y) refl refl (fitting_day a h) (fitting_day b k) le in
    elim (cases_order x.year y.year) [
      | inl at ↦ omega arith
      | inr (inl lt) ↦ omega arith
      | inr (inr gt) ↦ absurd (omega (arith, days_before-lt_year y.year y.month y.day x.year x.month x.day (date_of-late b k).is gt))
    ]
