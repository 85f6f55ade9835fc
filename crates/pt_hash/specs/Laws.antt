-- What the rules come to. Each is proved.
use Rattle.std.specs.Prelude.{◌≡◌, ℕ, ◌+◌, ◌<◌, ◌⊎◌, ℤ, Option}
use Rattle.pt_value.specs.Hashes.{IsResidue, residue, IsLeastPower, least_power, IsGreatestPower, greatest_power, linear_part, split_source}

-- LINEAR HASH, where a partition is added to n: a value stays where it is, or it was in the source and goes to the new one. Under
-- LINEAR KEY the value is a key number
abbrev pub LinearSplit : Type 0
LinearSplit =
    (value : Option ℤ) (n : ℕ) → 0 < n →
    (linear_part value (n + 1) ≡ linear_part value n) ⊎ ((linear_part value n ≡ split_source n) × (linear_part value (n + 1) ≡ n))

abbrev pub LeastPower : Type 0
LeastPower = (n : ℕ) → IsLeastPower n (least_power n)

abbrev pub GreatestPower : Type 0
GreatestPower = (n : ℕ) → 0 < n → IsGreatestPower n (greatest_power n)

abbrev pub Residue : Type 0
Residue = (number : ℤ) (m : ℕ) → 0 < m → IsResidue number m (residue number m)
