-- The bytes of a cell. docs/FILES.md, "Row files".
use Rattle.std.specs.Prelude.{ℕ, ◌<◌, ◌^◌, List, [], ◌∷◌, ◌++◌, length}
use Rattle.std.specs.Int.{w32, w64, cast_unsigned}
use Rattle.std.specs.Int.RustNames.{FitsSigned}
use Rattle.pt_value.specs.declared.value.Value.{Value}
use Rattle.pt_value.specs.declared.value.Value.TheVariants.{Null, Int, Day, Bytes}
use Rattle.pt_bytes.specs.Numbers.{AreBytes, le_bytes}

-- NULL is 0; a number 1 and its eight bytes; a day 2 and its four bytes; a byte string 3, how many, and these
abbrev pub cell_bytes : Value → List ℕ
cell_bytes Null = 0 ∷ []
cell_bytes (Int n) = 1 ∷ le_bytes 8 (cast_unsigned w64 n)
cell_bytes (Day day) = 2 ∷ le_bytes 4 (cast_unsigned w32 day)
cell_bytes (Bytes bytes) = 3 ∷ le_bytes 2 (length bytes) ++ bytes

-- a cell that can be written: a byte string has fewer than 65,536 bytes
abbrev pub IsCell : Value → Type 0
IsCell Null = Unit {0}
IsCell (Int n) = FitsSigned w64 n
IsCell (Day day) = FitsSigned w32 day
IsCell (Bytes bytes) = (length bytes < 2 ^ 16) × AreBytes bytes
