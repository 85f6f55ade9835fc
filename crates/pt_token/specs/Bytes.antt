-- Kinds of bytes.
use Rattle.std.specs.Prelude.{ℕ, ◌+◌, ◌-◌, ◌*◌, Bool, ◌&&◌, ◌||◌, ◌==◌, nat_le, List}
use Rattle.std.specs.List.{fold, take_while}
use Rattle.pt_token.specs.declared.bytes.Class.{Class}
use Rattle.pt_token.specs.declared.bytes.Class.TheVariants.{Digit, HexDigit, WordByte}

-- space, tab, line feed, carriage return, and the bytes 11 and 12
abbrev pub is_white : ℕ → Bool
is_white b = b == 32 || (nat_le 9 b && nat_le b 13)

abbrev pub is_letter : ℕ → Bool
is_letter b = (nat_le 65 b && nat_le b 90) || (nat_le 97 b && nat_le b 122)

abbrev pub is_digit : ℕ → Bool
is_digit b = nat_le 48 b && nat_le b 57

-- a letter, '_' or '$'
abbrev pub begins_word : ℕ → Bool
begins_word b = is_letter b || (b == 95 || b == 36)

abbrev pub is_word_byte : ℕ → Bool
is_word_byte b = begins_word b || is_digit b

-- 0 to 9, A to F, a to f
abbrev pub is_hex_digit : ℕ → Bool
is_hex_digit b = is_digit b || ((nat_le 65 b && nat_le b 70) || (nat_le 97 b && nat_le b 102))

-- ' and "
abbrev pub is_quote : ℕ → Bool
is_quote b = b == 39 || b == 34

-- the bytes that a run of one kind has
abbrev pub is_in : Class → ℕ → Bool
is_in Digit b = is_digit b
is_in HexDigit b = is_hex_digit b
is_in WordByte b = is_word_byte b

-- the bytes of that kind at the front
abbrev pub front : Class → List ℕ → List ℕ
front class bytes = take_while (is_in class) bytes

-- the number that digits write
abbrev pub digits_number : List ℕ → ℕ
digits_number digits = fold (λ n d. 10 * n + (d - 48)) 0 digits
