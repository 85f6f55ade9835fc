-- Names without case, by their lower-case forms. MySQL 5.7 manual, section 9.2.3, "Identifier Case Sensitivity". Nothing public
-- cites these.
use Rattle.std.specs.Prelude.{◌≡◌, ℕ, Bool, List, map}
use Rattle.std.specs.List.{list_any}
use Rattle.std.specs.Char.{to_ascii_lowercase}
use Rattle.std.specs.Str.{bytes_eq}

abbrev pub lowered : List ℕ → List ℕ
lowered name = map to_ascii_lowercase name

-- one of the names is this in lower case
abbrev pub is_form_of : List ℕ → List (List ℕ) → Bool
is_form_of key names = list_any (λ name. bytes_eq key (lowered name)) names

-- a test holds of the lower-case forms of these names, and of nothing else
abbrev pub AreNames : (List ℕ → Bool) → List (List ℕ) → Type 0
AreNames has names = (key : List ℕ) → has key ≡ is_form_of key names
