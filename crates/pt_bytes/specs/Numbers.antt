-- Numbers in bytes, the lowest byte first, and parts of bytes by their place. docs/FILES.md, "Numbers".
use Rattle.std.specs.Prelude.{ℕ, zero, suc, ◌+◌, ◌*◌, ◌/◌, ◌%◌, ◌<◌, nat_le, if◌then◌else◌, List, [], ◌∷◌, length, take, drop, All, Option, Some, None}

-- the number that bytes spell: the first byte, and 256 times the number of those behind it. So it is the sum of byte i times 256^i
unfoldable pub number_of : List ℕ → ℕ
number_of [] = 0
number_of (byte ∷ bytes) = byte + 256 * number_of bytes

-- the n lowest bytes of a number, the lowest first
unfoldable pub le_bytes : ℕ → ℕ → List ℕ
le_bytes zero number = []
le_bytes (suc n) number = number % 256 ∷ le_bytes n (number / 256)

-- so many bytes from a place on, none where fewer are left
unfoldable pub part_at : List ℕ → ℕ → ℕ → Option (List ℕ)
part_at bytes at len = if nat_le (at + len) (length bytes) then Some (take len (drop at bytes)) else None

-- each is a byte
abbrev pub AreBytes : List ℕ → Type 0
AreBytes bytes = All (λ byte. byte < 256) bytes
