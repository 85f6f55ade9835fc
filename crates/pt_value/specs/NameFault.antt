-- What is wrong with bytes that are no identifier.
use Rattle.std.specs.Prelude.{◌≡◌, ℕ, ◌<◌, ◌≤◌, List, length}
use Rattle.pt_value.specs.Ident.{IsFirstBad}
use Rattle.pt_value.specs.declared.ident.NameFault.{NameFault}
use Rattle.pt_value.specs.declared.ident.NameFault.TheVariants.{Empty, TooLong, BadByte}

-- no bytes, too many, or a bad one
abbrev pub IsNameFault : List ℕ → NameFault → Type 0
IsNameFault bytes Empty = length bytes ≡ 0
IsNameFault bytes TooLong = 64 < length bytes
IsNameFault bytes (BadByte place) = (length bytes ≤ 64) × IsFirstBad bytes place
