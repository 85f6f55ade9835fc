-- What stands between two quotes. A doubled quote and what a backslash escapes don't end it.
use Rattle.std.specs.Prelude.{ℕ, suc, ◌+◌, ◌-◌, ◌*◌, Bool, true, false, not, ◌&&◌, ◌||◌, ◌==◌, nat_le, if◌then◌else◌, List, [], ◌∷◌, ◌++◌, Option, Some, None}
use Rattle.std.specs.Option.{option_map}
use Rattle.pt_token.specs.Bytes.{is_digit}
use Rattle.pt_token.specs.declared.quoting.Quoting.{Quoting}
use Rattle.pt_token.specs.declared.quoting.Quoting.TheVariants.{Within, Escaped, Marked}

-- behind a byte; 92 is the backslash
abbrev pub behind_byte : ℕ → Quoting → ℕ → Quoting
behind_byte mark Within b = if b == 92 then Escaped else (if b == mark then Marked else Within)
behind_byte mark Escaped b = Within
behind_byte mark Marked b = Within

abbrev pub is_marked : Quoting → Bool
is_marked Marked = true
is_marked _ = false

-- whether the text ended before a byte: a quote stands before it, and it doubles none
abbrev pub ends : ℕ → Quoting → ℕ → Bool
ends mark at b = is_marked at && not (b == mark)

-- How many bytes there are up to and with the quote that ends the text: one that isn't doubled. None where it is open.
unfoldable pub text_end : ℕ → Quoting → List ℕ → Option ℕ
text_end mark at [] = if is_marked at then Some 0 else None
text_end mark at (b ∷ bytes) = if ends mark at b then Some 0 else option_map suc (text_end mark (behind_byte mark at b) bytes)

-- What a backslash and a byte stand for: 0 NUL, b 8, t 9, n 10, r 13, Z 26. Before '%' and '_' the backslash stays, and
-- any other byte stands for itself.
abbrev pub escaped : ℕ → List ℕ
escaped b =
    if b == 48 then 0 ∷ []
    else (if b == 98 then 8 ∷ []
    else (if b == 116 then 9 ∷ []
    else (if b == 110 then 10 ∷ []
    else (if b == 114 then 13 ∷ []
    else (if b == 90 then 26 ∷ []
    else (if b == 37 || b == 95 then 92 ∷ b ∷ [] else b ∷ []))))))

-- what a byte adds to the text
abbrev pub added : Quoting → ℕ → List ℕ
added Within b = if b == 92 then [] else b ∷ []
added Escaped b = escaped b
added Marked b = []

-- the text that bytes between two quotes spell
unfoldable pub content : ℕ → Quoting → List ℕ → List ℕ
content mark at [] = []
content mark at (b ∷ bytes) = added at b ++ content mark (behind_byte mark at b) bytes

-- the value of a hexadecimal digit
abbrev pub hex_value : ℕ → ℕ
hex_value b = if is_digit b then b - 48 else (if nat_le 97 b then b - 87 else b - 55)

-- the bytes that pairs of hexadecimal digits spell
unfoldable pub hex_bytes : List ℕ → List ℕ
hex_bytes [] = []
hex_bytes (high ∷ []) = []
hex_bytes (high ∷ low ∷ digits) = (16 * hex_value high + hex_value low) ∷ hex_bytes digits
