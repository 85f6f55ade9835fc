-- In the shape of the code: dates as they are written in digits. Nothing public cites these.
use Rattle.std.specs.Prelude.{◌≡◌, ℕ, ◌+◌, ◌/◌, ◌%◌, ◌<◌, ℤ}
use Rattle.pt_value.specs.Calendar.{Date, date_of}
use Rattle.pt_value.specs.Fits.{FitsDate}

-- the digits of YYYY-MM-DD can write these parts
pub record IsShort (year month day : ℕ) : Type 0 where
  pub year_in : year < 10000
  pub month_in : month < 100
  pub day_in : day < 100

-- the two digits of a number
pub record IsWritten (n tens ones : ℕ) : Type 0 where
  pub below : n < 100
  pub tens_is : tens ≡ 48 + n / 10
  pub ones_is : ones ≡ 48 + n % 10

-- the day of a date, which fits DATE
pub record IsDayOf (date : Date) (day : ℤ) : Type 0 where
  pub fits : FitsDate day
  pub date_is : date_of day ≡ date
