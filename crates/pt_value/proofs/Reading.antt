-- Dates and their texts.
use Rattle.std.proofs.Common.{◌≡◌, refl, ℕ, suc, ◌+◌, ◌-◌, ◌*◌, ◌/◌, ◌%◌, ◌<◌, List, [], ◌∷◌, length, get_or, drop, ap, ◌∙◌, arith, drop-cons, subst, sym, ℤ, ◌≤◌}
use Rattle.std.proofs.lemmas.List.{drop_all}
use Rattle.pt_value.specs.Calendar.{Date, IsDate, date_of}
use Rattle.pt_value.specs.Fits.{FitsDate}
use Rattle.pt_value.specs.Digits.{IsShort, IsWritten}
use Rattle.pt_value.specs.Text.{SpellsDay, date_in, date_text}
use Rattle.pt_value.proofs.Dates.{date_of-late, days_in_month_bounds}

-- a list from a place on
from : (xs : List ℕ) (i : ℕ) {rest : List ℕ} → i < length xs → drop (suc i) xs ≡ rest → drop i xs ≡ get_or xs i 0 ∷ rest
from xs i below more = drop-cons xs i 0 below ∙ ap (λ rest. get_or xs i 0 ∷ rest) more

ten : (xs : List ℕ) → length xs ≡ 10
    → xs ≡ get_or xs 0 0 ∷ get_or xs 1 0 ∷ get_or xs 2 0 ∷ get_or xs 3 0 ∷ get_or xs 4 0 ∷ get_or xs 5 0 ∷ get_or xs 6 0 ∷ get_or xs 7 0 ∷ get_or xs 8 0 ∷ get_or xs 9 0 ∷ []
ten xs e =
    from xs 0 (omega arith) (from xs 1 (omega arith) (from xs 2 (omega arith) (from xs 3 (omega arith) (from xs 4 (omega arith)
    (from xs 5 (omega arith) (from xs 6 (omega arith) (from xs 7 (omega arith) (from xs 8 (omega arith) (from xs 9 (omega arith) (drop_all 10 xs (omega arith)))))))))))

-- ten bytes that are digits and dashes at the right places are the text of a date
pub is_date_text : (xs : List ℕ) (c y m d : ℕ) → length xs ≡ 10 → get_or xs 4 0 ≡ 45 → get_or xs 7 0 ≡ 45
    → IsWritten c (get_or xs 0 0) (get_or xs 1 0) → IsWritten y (get_or xs 2 0) (get_or xs 3 0)
    → IsWritten m (get_or xs 5 0) (get_or xs 6 0) → IsWritten d (get_or xs 8 0) (get_or xs 9 0)
    → xs ≡ date_text (record { year = c * 100 + y; month = m; day = d })
is_date_text xs c y m d e first second century year month day =
    let low = year.below in
    let above : (c * 100 + y) / 100 ≡ c = omega arith in
    let below : (c * 100 + y) % 100 ≡ y = omega arith in
    ten xs e ∙ rw (above, below) (cc)

-- the date in the text of a date is that date
pub date_in-text : (d : Date) → date_in (date_text d) ≡ d
date_in-text d = rw (year d.year, number d.month, number d.day) refl
  where
    number : (n : ℕ) → (48 + n / 10 - 48) * 10 + (48 + n % 10 - 48) ≡ n
    number n = omega arith

    year : (n : ℕ)
        → ((48 + n / 100 / 10 - 48) * 10 + (48 + n / 100 % 10 - 48)) * 100 + ((48 + n % 100 / 10 - 48) * 10 + (48 + n % 100 % 10 - 48)) ≡ n
    year n = omega arith

-- so a date is told by its text
pub date_text-injective : (a b : Date) → date_text a ≡ date_text b → a ≡ b
date_text-injective a b same = sym (date_in-text a) ∙ ap date_in same ∙ date_in-text b

-- its digits can write the date of a day that fits DATE
pub date_of-short : (day : ℤ) → FitsDate day → IsShort (date_of day).year (date_of day).month (date_of day).day
date_of-short day h =
    let late = date_of-late day h in
    record { year_in = late.last; month_in = (let high = late.is.month_in.1 in omega arith); day_in = (let high = late.is.day_in.1 in omega (arith, days_in_month_bounds (date_of day).year (date_of day).month)) }

-- what is no date of the form spells no day
pub no_form : (bytes : List ℕ) → ((d : Date) → IsShort d.year d.month d.day → ¬ (bytes ≡ date_text d)) → (day : ℤ) → ¬ (SpellsDay bytes day)
no_form bytes none day spelled = none (date_of day) (date_of-short day spelled.fits) spelled.text

-- and neither does the text of a date that the calendar doesn't have from the year 1000 on
pub no_day : (bytes : List ℕ) (d : Date) → bytes ≡ date_text d → ¬ (IsDate d × (1000 ≤ d.year)) → (day : ℤ) → ¬ (SpellsDay bytes day)
no_day bytes d text none day spelled =
    let late = date_of-late day spelled.fits in
    let same = date_text-injective (date_of day) d (sym spelled.text ∙ text) in
    none (subst (λ (d : Date). IsDate d × (1000 ≤ d.year)) same (late.is, late.first))
