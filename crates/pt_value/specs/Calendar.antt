-- The Gregorian calendar, for all years from 0 on, by its own rules. After the manual's topics "Date and Time Functions" and
-- "What Calendar Is Used By MySQL?".
use Rattle.std.specs.Prelude.{ℕ, zero, suc, ◌+◌, ◌-◌, ◌/◌, ◌%◌, Bool, not, ◌&&◌, ◌||◌, ◌==◌, nat_lt, if◌then◌else◌, ℤ, pos, ◌+ℤ◌, ◌-ℤ◌, unsigned_abs}
use Rattle.std.specs.Int.{IsInRange, int_rem_euclid}

-- every fourth year is a leap year, but of the centuries only every fourth
abbrev pub is_leap_year : ℕ → Bool
is_leap_year y = (y % 4 == 0) && (not (y % 100 == 0) || (y % 400 == 0))

-- thirty days have September, April, June and November
abbrev pub days_in_month : ℕ → ℕ → ℕ
days_in_month y m =
    if m == 2 then (if is_leap_year y then 29 else 28)
    else (if (m == 4) || (m == 6) || (m == 9) || (m == 11) then 30 else 31)

pub record Date : Type 0 where
  pub year : ℕ
  pub month : ℕ
  pub day : ℕ

-- the calendar has this date
pub record IsDate (date : Date) : Type 0 where
  pub month_in : IsInRange 1 12 date.month
  pub day_in : IsInRange 1 (days_in_month date.year date.month) date.day

-- the days of the first n months of a year
unfoldable pub days_of_months : ℕ → ℕ → ℕ
days_of_months y zero = 0
days_of_months y (suc n) = days_of_months y n + days_in_month y (suc n)

-- the days of the first n years, from the year 0 on
unfoldable pub days_of_years : ℕ → ℕ
days_of_years zero = 0
days_of_years (suc y) = days_of_years y + days_of_months y 12

-- the place of a date in its year, from 1: the days before the first of its month, and its day
abbrev pub day_of_year : Date → ℕ
day_of_year date = days_of_months date.year (date.month - 1) + date.day

-- how many days come before a date, from 0000-01-01 on
abbrev pub days_before : Date → ℕ
days_before date = days_of_years date.year + (day_of_year date - 1)

-- the day of a date: how many days it comes after 1970-01-01, before which there are 719,528
abbrev pub day_number : Date → ℤ
day_number date = pos (days_before date) -ℤ pos 719_528

-- the date after a date: in its month, else in its year, else in the next year
abbrev pub next_date : Date → Date
next_date d =
    if nat_lt d.day (days_in_month d.year d.month) then record { year = d.year; month = d.month; day = suc d.day }
    else (if nat_lt d.month 12 then record { year = d.year; month = suc d.month; day = 1 }
    else record { year = suc d.year; month = 1; day = 1 })

-- the date n days after 0000-01-01
unfoldable pub date_after : ℕ → Date
date_after zero = record { year = 0; month = 1; day = 1 }
date_after (suc n) = next_date (date_after n)

-- the date of a day that isn't before 0000-01-01. It is the one date with this day number: `OneDate` of Laws.antt
abbrev pub date_of : ℤ → Date
date_of day = date_after (unsigned_abs (day +ℤ pos 719_528))

-- the quarter of a month
abbrev pub quarter_of : ℕ → ℕ
quarter_of month = (month + 2) / 3

-- how many days a day comes after the last Monday: 1969-12-29, three days before 1970-01-01, was one
abbrev pub days_after_monday : ℤ → ℤ
days_after_monday day = int_rem_euclid (day +ℤ pos 3) (pos 7)

-- the same of Sundays: 1969-12-28 was one
abbrev pub days_after_sunday : ℤ → ℤ
days_after_sunday day = int_rem_euclid (day +ℤ pos 4) (pos 7)
