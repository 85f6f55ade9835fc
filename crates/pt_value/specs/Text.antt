-- The texts of dates and values. After the manual's topics "Date and Time Literals", "Hexadecimal Literals" and "String Literals".
use Rattle.std.specs.Prelude.{◌≡◌, ℕ, ◌+◌, ◌-◌, ◌*◌, ◌/◌, ◌%◌, Bool, not, ◌&&◌, ◌==◌, nat_le, nat_lt, if◌then◌else◌, ℤ, List, [], ◌∷◌, ◌++◌, slice_index, codes, Option, Some, None}
use Rattle.std.specs.List.{flat_map, list_all}
use Rattle.std.specs.Str.{bytes_eq}
use Rattle.std.specs.Fmt.{signed_decimal}
use Rattle.pt_value.specs.Calendar.{Date, date_of, day_number}
use Rattle.pt_value.specs.Fits.{FitsDate, fits_date}
use Rattle.pt_value.specs.declared.value.Value.{Value}
use Rattle.pt_value.specs.declared.value.Value.TheVariants.{Null, Int, Day, Bytes}

-- 00 to 99: the digits are the bytes 48 to 57
abbrev pub two_digits : ℕ → List ℕ
two_digits n = (48 + n / 10) ∷ (48 + n % 10) ∷ []

-- YYYY-MM-DD: the byte 45 is `-`
abbrev pub date_text : Date → List ℕ
date_text date =
    two_digits (date.year / 100) ++ two_digits (date.year % 100) ++ 45 ∷ [] ++ two_digits date.month ++ 45 ∷ [] ++ two_digits date.day

-- bytes spell a day that fits DATE where they are the text of its date
pub record SpellsDay (bytes : List ℕ) (day : ℤ) : Type 0 where
  pub fits : FitsDate day
  pub text : bytes ≡ date_text (date_of day)

-- the same, as a test
abbrev pub spells_day : List ℕ → ℤ → Bool
spells_day bytes day = fits_date day && bytes_eq bytes (date_text (date_of day))

-- the number that two digits at a place write
abbrev pub number_at : List ℕ → ℕ → ℕ
number_at bytes place = (slice_index bytes place - 48) * 10 + (slice_index bytes (place + 1) - 48)

-- the date that the digits of YYYY-MM-DD write, told from their places alone
abbrev pub date_in : List ℕ → Date
date_in bytes = record { year = number_at bytes 0 * 100 + number_at bytes 2; month = number_at bytes 5; day = number_at bytes 8 }

-- the day that bytes spell, if any: it can be no other than that of the date in them. `SpelledDay` of Laws.antt says so
unfoldable pub day_of : List ℕ → Option ℤ
day_of bytes = let day = day_number (date_in bytes) in if spells_day bytes day then Some day else None

-- a byte that stands for itself within quotes: 0x20 to 0x7E, and neither `'` nor a backslash
abbrev pub is_plain : ℕ → Bool
is_plain b = nat_le 32 b && nat_le b 126 && not (b == 39) && not (b == 92)

-- 0 to 9, and A to F
abbrev pub hex_digit : ℕ → ℕ
hex_digit n = if nat_lt n 10 then 48 + n else 55 + n

abbrev pub hex : ℕ → List ℕ
hex b = hex_digit (b / 16) ∷ hex_digit (b % 16) ∷ []

-- bytes in quotes, or in hexadecimal digits where one isn't plain: the byte 39 is `'`
abbrev pub bytes_text : List ℕ → List ℕ
bytes_text bytes = if list_all is_plain bytes then 39 ∷ bytes ++ 39 ∷ [] else codes "X'" ++ flat_map hex bytes ++ 39 ∷ []

-- the printed text of a value
abbrev pub shown : Value → List ℕ
shown Null = codes "NULL"
shown (Int n) = signed_decimal n
shown (Day day) = date_text (date_of day)
shown (Bytes bytes) = bytes_text bytes

-- a value has a printed text where it is no day that DATE lacks
abbrev pub CanShow : Value → Type 0
CanShow Null = Unit {0}
CanShow (Int n) = Unit {0}
CanShow (Day day) = FitsDate day
CanShow (Bytes bytes) = Unit {0}
