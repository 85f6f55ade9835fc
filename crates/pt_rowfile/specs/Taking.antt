-- What a step of the reader takes.
use Rattle.std.specs.Prelude.{◌≡◌, ℕ, List, [], ◌∷◌, Option, Some, None}

-- what was found and what is left are what is read there, or nothing is
abbrev pub Takes : {A : Type 0} → Option A → List ℕ → Option (A × List ℕ) → Type 0
Takes None rest read = read ≡ None
Takes (Some x) rest read = read ≡ Some (x, rest)

-- a byte was in front, or none is left
abbrev pub TakesByte : Option ℕ → List ℕ → List ℕ → Type 0
TakesByte None rest bytes = bytes ≡ []
TakesByte (Some byte) rest bytes = bytes ≡ byte ∷ rest
