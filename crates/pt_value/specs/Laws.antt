-- What the definitions come to. Each is proved.
use Rattle.std.specs.Prelude.{◌≡◌, ◌↔◌, ℤ, pos, List, ℕ, Some}
use Rattle.std.specs.Int.{IsInRange}
use Rattle.std.specs.declared.cmp.Ordering.TheVariants.{Equal}
use Rattle.pt_value.specs.Calendar.{Date, IsDate, date_of, day_number}
use Rattle.pt_value.specs.Fits.{FitsDate}
use Rattle.pt_value.specs.Text.{SpellsDay, day_of}
use Rattle.pt_value.specs.Value.{value_cmp}
use Rattle.pt_value.specs.declared.value.Value.{Value}

-- To walk from date to date and to count the days before a date is the same. Day 0 is 1970-01-01, and the days that fit DATE are
-- those of the years 1000 to 9999.
pub record OneDate : Type 0 where
  pub of_day : (day : ℤ) → FitsDate day → IsDate (date_of day) × (day_number (date_of day) ≡ day)
  pub of_date : (date : Date) → IsDate date → date_of (day_number date) ≡ date
  pub of_zero : date_of (pos 0) ≡ record { year = 1970; month = 1; day = 1 }
  pub fitting : (date : Date) → IsDate date → FitsDate (day_number date) ↔ IsInRange 1000 9999 date.year

-- bytes spell one day at most
abbrev pub OneSpelling : Type 0
OneSpelling = (bytes : List ℕ) (a b : ℤ) → SpellsDay bytes a → SpellsDay bytes b → a ≡ b

-- `day_of` gives a day exactly where bytes spell it
abbrev pub SpelledDay : Type 0
SpelledDay = (bytes : List ℕ) (day : ℤ) → (day_of bytes ≡ Some day) ↔ SpellsDay bytes day

-- none but equal values tie
abbrev pub OneValue : Type 0
OneValue = (a b : Value) → value_cmp a b ≡ Equal → a ≡ b
