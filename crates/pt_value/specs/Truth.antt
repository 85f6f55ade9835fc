-- Truth in three values: FALSE below UNKNOWN below TRUE. After the manual's topics "Working with NULL Values" and
-- "Logical Operators".
use Rattle.std.specs.Prelude.{ℕ, nat_le, if◌then◌else◌}
use Rattle.pt_value.specs.declared.truth.Truth.{Truth}
use Rattle.pt_value.specs.declared.truth.Truth.TheVariants.{False, Unknown, True}

abbrev pub rank : Truth → ℕ
rank False = 0
rank Unknown = 1
rank True = 2

-- AND
abbrev pub least : Truth → Truth → Truth
least a b = if nat_le (rank a) (rank b) then a else b

-- OR
abbrev pub greatest : Truth → Truth → Truth
greatest a b = if nat_le (rank a) (rank b) then b else a

-- NOT
abbrev pub turned : Truth → Truth
turned False = True
turned Unknown = Unknown
turned True = False
