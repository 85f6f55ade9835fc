-- The day that bytes spell, as a function of them.
use Rattle.std.proofs.Common.{◌≡◌, ℕ, Bool, true, false, T, Decides, List, ℤ, ◌≤ℤ◌, int_le, Option, Some, None, IfSome, IfNone, refl, ap, ◌∙◌, sym, subst}
use Rattle.std.proofs.lemmas.Bool.{cond-true, cond_both}
use Rattle.std.proofs.lemmas.Bool.Decides.{Decides-and, Decides-like}
use Rattle.std.proofs.lemmas.Option.{none-some, same_Some}
use Rattle.std.proofs.lemmas.Slice.Eq.{bytes_eq-Decides}
use Rattle.std.specs.Int.Signed.{le_z_yes}
use Rattle.pt_value.specs.Calendar.{date_of, day_number}
use Rattle.pt_value.specs.Fits.{FitsDate, fits_date}
use Rattle.pt_value.specs.Text.{SpellsDay, date_in, date_text, day_of, spells_day}
use Rattle.pt_value.proofs.Dates.{fitting_day}
use Rattle.pt_value.proofs.Reading.{date_in-text}

Decides-int_le : (a b : ℤ) → Decides (int_le a b) (a ≤ℤ b)
Decides-int_le a b = (λ e. le_z_yes (subst T (sym e) tt), λ h. yes (int_le a b) h.le)
  where
    yes : (b : Bool) → T b → b ≡ true
    yes true t = refl
    yes false t = absurd t

pub fits_date-Decides : (day : ℤ) → Decides (fits_date day) (FitsDate day)
fits_date-Decides day = Decides-and _ _ (Decides-int_le _ day) (Decides-int_le day _)

pub spells_day-Decides : (bytes : List ℕ) (day : ℤ) → Decides (spells_day bytes day) (SpellsDay bytes day)
spells_day-Decides bytes day =
    Decides-like (spells_day bytes day) (λ h. record { fits = h.0; text = h.1 }) (λ spelled. (spelled.fits, spelled.text))
    (Decides-and _ _ (fits_date-Decides day) (bytes_eq-Decides bytes (date_text (date_of day))))

-- a day that bytes spell is that of the date in them
pub day_in_spelled : (bytes : List ℕ) (day : ℤ) → SpellsDay bytes day → day_number (date_in bytes) ≡ day
day_in_spelled bytes day spelled =
    ap (λ xs. day_number (date_in xs)) spelled.text ∙ ap (λ d. day_number d) (date_in-text (date_of day)) ∙ fitting_day day spelled.fits

-- so bytes spell one day at most
pub one_day : (bytes : List ℕ) (a b : ℤ) → SpellsDay bytes a → SpellsDay bytes b → a ≡ b
one_day bytes a b first second = sym (day_in_spelled bytes a first) ∙ day_in_spelled bytes b second

-- what bytes spell is what `day_of` gives ..
pub day_of-some : (bytes : List ℕ) (day : ℤ) → SpellsDay bytes day → day_of bytes ≡ Some day
unfolding day_of
day_of-some bytes day spelled =
    let same = day_in_spelled bytes day spelled in
    let spells = (spells_day-Decides bytes (day_number (date_in bytes))).1 (subst (SpellsDay bytes) (sym same) spelled) in
    cond-true (spells_day bytes (day_number (date_in bytes))) (Some (day_number (date_in bytes))) None spells ∙ ap Some same

-- .. and what it gives they spell
pub day_of-spells : (bytes : List ℕ) (day : ℤ) → day_of bytes ≡ Some day → SpellsDay bytes day
unfolding day_of
day_of-spells bytes day =
    let number = day_number (date_in bytes) in
    cond_both (spells_day bytes number) (Some number) None (λ o. o ≡ Some day → SpellsDay bytes day)
    (λ yes same. subst (SpellsDay bytes) (same_Some number day same) ((spells_day-Decides bytes number).0 yes))
    (λ no same. absurd (none-some day same))

-- the day that `day_of` gives fits DATE
pub day_of-fits : (bytes : List ℕ) (day : ℤ) → day_of bytes ≡ Some day → FitsDate day
day_of-fits bytes day same = (day_of-spells bytes day same).fits

-- it gives none where they spell none ..
pub day_of-none : (bytes : List ℕ) → ((day : ℤ) → ¬ (SpellsDay bytes day)) → day_of bytes ≡ None
day_of-none bytes none = from (day_of bytes) refl
  where
    from : (o : Option ℤ) → day_of bytes ≡ o → day_of bytes ≡ None
    from None same = same
    from (Some day) same = absurd (none day (day_of-spells bytes day same))

-- .. and there alone
pub day_of-unspelled : (bytes : List ℕ) → day_of bytes ≡ None → (day : ℤ) → ¬ (SpellsDay bytes day)
day_of-unspelled bytes same day spelled = none-some day (sym same ∙ day_of-some bytes day spelled)

-- so an answer that tells what they spell is the one that it gives
pub is_day_of : (bytes : List ℕ) (o : Option ℤ) → IfSome o (SpellsDay bytes) → IfNone o ((day : ℤ) → ¬ (SpellsDay bytes day)) → o ≡ day_of bytes
is_day_of bytes None some none = sym (day_of-none bytes none)
is_day_of bytes (Some day) some none = sym (day_of-some bytes day some)
