-- Which row holds a key's cells, as a function; and that it is that of a book's entries.
use Rattle.std.specs.Prelude.{◌≡◌, ◌↔◌, ℕ, ◌≤◌, min, Bool, true, false, List, [], Option, Some, None, if◌then◌else◌, Contains}
use Rattle.std.specs.Option.{option_map_or}
use Rattle.pt_value.specs.declared.value.Value.{Value}
use Rattle.pt_unique.specs.Book.{stands}

abbrev pub has : Option (List (ℕ × List Value)) → ℕ × List Value → Bool
has entry mark = option_map_or (λ own. stands own mark) entry false

-- what stands in an entry is held by that serial, or by none
abbrev pub held_by : List (ℕ × List Value) → Option ℕ → (ℕ × List Value → Option ℕ) → ℕ × List Value → Option ℕ
held_by entry serial before mark = if stands entry mark then serial else before mark

-- the marks of an entry, none where there is none
abbrev pub marks_of : Option (List (ℕ × List Value)) → List (ℕ × List Value)
marks_of None = []
marks_of (Some entry) = entry

-- the lesser of two serials
abbrev pub lesser : Option ℕ → Option ℕ → Option ℕ
lesser None b = b
lesser (Some a) None = Some a
lesser (Some a) (Some b) = Some (min a b)

-- a serial holds exactly what stands in its entry
abbrev pub AreHolders : (ℕ → Option (List (ℕ × List Value))) → (ℕ × List Value → Option ℕ) → Type 0
AreHolders entries holders = (serial : ℕ) (mark : ℕ × List Value) → (has (entries serial) mark ≡ true) ↔ (holders mark ≡ Some serial)

-- The least serial that holds one of the marks, if any is held.
pub record IsLeast (holders : ℕ × List Value → Option ℕ) (marks : List (ℕ × List Value)) (least : Option ℕ) : Type 0 where
  pub found : (serial : ℕ) → least ≡ Some serial → (mark : ℕ × List Value) × Contains marks mark × (holders mark ≡ Some serial)
  pub low : (serial : ℕ) (mark : ℕ × List Value) → Contains marks mark → holders mark ≡ Some serial → (n : ℕ) × (least ≡ Some n) × (n ≤ serial)
