-- Identifiers: names of tables, columns and partitions. After the manual's topic "Schema Object Names", unquoted, in ASCII.
use Rattle.std.specs.Prelude.{◌≡◌, ℕ, ◌<◌, ◌≤◌, Bool, false, ◌&&◌, ◌||◌, ◌==◌, nat_le, List, map, length, take, slice_index, All, IsTrue}
use Rattle.std.specs.Char.{to_ascii_lowercase}

-- an ASCII letter, a digit, '_' or '$'
abbrev pub is_ident_byte : ℕ → Bool
is_ident_byte b = (nat_le 97 b && nat_le b 122) || (nat_le 65 b && nat_le b 90) || (nat_le 48 b && nat_le b 57) || b == 95 || b == 36

-- 1 to 64 of them
pub record IsIdent (bytes : List ℕ) : Type 0 where
  pub some : 0 < length bytes
  pub fits : length bytes ≤ 64
  pub each : All (λ b. IsTrue (is_ident_byte b)) bytes

-- all the bytes before the place may stand in an identifier, and the one there may not
pub record IsFirstBad (bytes : List ℕ) (place : ℕ) : Type 0 where
  pub there : place < length bytes
  pub before : All (λ b. IsTrue (is_ident_byte b)) (take place bytes)
  pub bad : is_ident_byte (slice_index bytes place) ≡ false

-- the same but for the case of ASCII letters
abbrev pub IsSameName : List ℕ → List ℕ → Type 0
IsSameName a b = map to_ascii_lowercase a ≡ map to_ascii_lowercase b
