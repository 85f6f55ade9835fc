-- Words for what is storable: the bounds within which a tree is handed from call to call and written to a file.
use Rattle.std.specs.Prelude.{ℕ, ◌<◌, ◌≤◌, ◌^◌, ℤ, pos, ◌≤ℤ◌, List, [], ◌∷◌, length, max}

-- a list has fewer than 2^32 parts
abbrev pub IsCounted : {A : Type 0} → List A → Type 0
IsCounted parts = length parts < 2 ^ 32

-- and this many at least
abbrev pub HasAtLeast : {A : Type 0} → ℕ → List A → Type 0
HasAtLeast least parts = (least ≤ length parts) × IsCounted parts

abbrev pub IsNotNegative : ℤ → Type 0
IsNotNegative n = pos 0 ≤ℤ n

-- the greatest of some numbers, 0 of none
abbrev pub greatest : List ℕ → ℕ
greatest [] = 0
greatest (n ∷ ns) = max n (greatest ns)
