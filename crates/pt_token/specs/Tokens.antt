-- The tokens of a piece, and its first lexical fault.
use Rattle.std.specs.Prelude.{◌≡◌, ◌<◌, ℕ, ◌+◌, ◌-◌, ◌%◌, Bool, false, not, ◌&&◌, ◌||◌, ◌==◌, nat_lt, nat_eq, if◌then◌else◌, is_none, List, [], ◌∷◌, length, take, drop, codes, slice_index, Option, Some, None}
use Rattle.std.specs.List.{list_any, starts_with}
use Rattle.pt_token.specs.declared.bytes.Class.TheVariants.{Digit, HexDigit, WordByte}
use Rattle.pt_token.specs.declared.quoting.Quoting.TheVariants.{Within}
use Rattle.pt_token.specs.declared.gap.Gap.{Gap}
use Rattle.pt_token.specs.declared.token.Token.{Token}
use Rattle.pt_token.specs.declared.token.TokenKind.{TokenKind}
use Rattle.pt_token.specs.declared.token.TokenKind.TheVariants.{Word, Quoted, Number, Text, Hex, Sign}
use Rattle.pt_token.specs.declared.token.Lexeme.{Lexeme}
use Rattle.pt_token.specs.declared.fault.LexFault.{LexFault}
use Rattle.pt_token.specs.declared.fault.LexFault.TheVariants.{BadByte, OpenQuote, OpenComment, NoMemory}
use Rattle.pt_token.specs.Bytes.{begins_word, front, is_digit, is_quote}
use Rattle.pt_token.specs.Gap.{next_gap, opened_end}
use Rattle.pt_token.specs.Quoting.{content, hex_bytes, text_end}

abbrev pub lexeme : TokenKind → ℕ → Lexeme
lexeme kind length = record { kind = kind; length = length }

-- a letter, '_' or '$', and the letters, digits, '_' and '$' behind it
abbrev pub word : List ℕ → Option Lexeme
word bytes = if begins_word (slice_index bytes 0) then Some (lexeme Word (length (front WordByte bytes))) else None

-- digits, with no letter, '_' or '$' behind them
abbrev pub number_token : List ℕ → Option Lexeme
number_token bytes =
    if is_digit (slice_index bytes 0) && length (front Digit bytes) == length (front WordByte bytes)
    then Some (lexeme Number (length (front Digit bytes))) else None

-- letters, digits, '_' and '$' between backquotes, of which there are n
abbrev pub quoted_by : ℕ → List ℕ → Option Lexeme
quoted_by n bytes = if nat_lt 0 n && slice_index bytes (n + 1) == 96 then Some (lexeme Quoted (n + 2)) else None

abbrev pub quoted : List ℕ → Option Lexeme
quoted bytes = if slice_index bytes 0 == 96 then quoted_by (length (front WordByte (drop 1 bytes))) bytes else None

-- a text, where its closing quote is the n-th byte behind its first
abbrev pub text_by : Option ℕ → ℕ → List ℕ → Option Lexeme
text_by None mark bytes = None
text_by (Some n) mark bytes = Some (lexeme (Text (content mark Within (take (n - 1) bytes))) (n + 1))

abbrev pub text : List ℕ → Option Lexeme
text bytes =
    if is_quote (slice_index bytes 0) then text_by (text_end (slice_index bytes 0) Within (drop 1 bytes)) (slice_index bytes 0) (drop 1 bytes) else None

-- the digits of `X'..'` or `x'..'`
abbrev pub hex_digits : List ℕ → List ℕ
hex_digits bytes = front HexDigit (drop 2 bytes)

abbrev pub opens_hex : List ℕ → Bool
opens_hex bytes = starts_with nat_eq bytes (codes "X'") || starts_with nat_eq bytes (codes "x'")

-- `X'..'` with an even number of hexadecimal digits
abbrev pub is_hex : List ℕ → Bool
is_hex bytes = opens_hex bytes && (length (hex_digits bytes) % 2 == 0 && slice_index bytes (length (hex_digits bytes) + 2) == 39)

abbrev pub hex : List ℕ → Option Lexeme
hex bytes = if is_hex bytes then Some (lexeme (Hex (hex_bytes (hex_digits bytes))) (length (hex_digits bytes) + 3)) else None

-- the signs of two bytes
abbrev pub long_signs : List (List ℕ)
long_signs = codes "<=" ∷ codes ">=" ∷ codes "<>" ∷ codes "!=" ∷ []

-- the signs of one byte
abbrev pub short_signs : List ℕ
short_signs = codes "(),=<>+-*%"

abbrev pub is_long_sign : List ℕ → Bool
is_long_sign bytes = list_any (λ both. starts_with nat_eq bytes both) long_signs

abbrev pub is_short_sign : ℕ → Bool
is_short_sign b = list_any (λ c. b == c) short_signs

abbrev pub sign : List ℕ → Option Lexeme
sign bytes = if is_long_sign bytes then Some (lexeme Sign 2) else (if is_short_sign (slice_index bytes 0) then Some (lexeme Sign 1) else None)

-- the one that there is; a Hex is longer than the Word that it begins with
abbrev pub or_else : Option Lexeme → Option Lexeme → Option Lexeme
or_else (Some f) other = Some f
or_else None other = other

-- the longest token that the bytes begin with
unfoldable pub next_token : List ℕ → Option Lexeme
next_token bytes = or_else (hex bytes) (or_else (word bytes) (or_else (number_token bytes) (or_else (quoted bytes) (or_else (text bytes) (sign bytes)))))

abbrev pub is_open_comment : List ℕ → Bool
is_open_comment bytes = starts_with nat_eq bytes (codes "/*") && is_none (opened_end (drop 2 bytes))

-- what is wrong with bytes that begin with no token, no white space and no closed comment
unfoldable pub fault_at : Bool → ℕ → List ℕ → LexFault
fault_at inside place bytes =
    if is_quote (slice_index bytes 0) then OpenQuote place
    else (if not inside && is_open_comment bytes then OpenComment place else BadByte place)

-- The bytes from a place of the piece on have these tokens and no fault.
pub data HasTokens : Bool → ℕ → List ℕ → List Token → Type 0 where
  done : {inside : Bool} {place : ℕ} → HasTokens inside place [] []
  gap : {inside : Bool} {place : ℕ} {bytes : List ℕ} {tokens : List Token} {g : Gap} → next_gap inside bytes ≡ Some g
      → HasTokens g.inside (place + g.length) (drop g.length bytes) tokens → HasTokens inside place bytes tokens
  token : {inside : Bool} {place : ℕ} {bytes : List ℕ} {tokens : List Token} {f : Lexeme} → next_gap inside bytes ≡ None → next_token bytes ≡ Some f
      → HasTokens inside (place + f.length) (drop f.length bytes) tokens → HasTokens inside place bytes (record { kind = f.kind; from = place; to = place + f.length } ∷ tokens)

-- The first fault from a place of the piece on.
pub data HasFault : Bool → ℕ → List ℕ → LexFault → Type 0 where
  here : {inside : Bool} {place : ℕ} {bytes : List ℕ} → 0 < length bytes → next_gap inside bytes ≡ None → next_token bytes ≡ None → HasFault inside place bytes (fault_at inside place bytes)
  behind_gap : {inside : Bool} {place : ℕ} {bytes : List ℕ} {fault : LexFault} {g : Gap} → next_gap inside bytes ≡ Some g
      → HasFault g.inside (place + g.length) (drop g.length bytes) fault → HasFault inside place bytes fault
  behind_token : {inside : Bool} {place : ℕ} {bytes : List ℕ} {fault : LexFault} {f : Lexeme} → next_gap inside bytes ≡ None → next_token bytes ≡ Some f
      → HasFault inside (place + f.length) (drop f.length bytes) fault → HasFault inside place bytes fault

-- the piece's tokens
abbrev pub IsLexed : List ℕ → List Token → Type 0
IsLexed piece tokens = HasTokens false 0 piece tokens

-- the first fault, or want of memory
abbrev pub IsFaultFrom : Bool → ℕ → List ℕ → LexFault → Type 0
IsFaultFrom inside place bytes NoMemory = Unit {0}
IsFaultFrom inside place bytes fault = HasFault inside place bytes fault

-- the piece's first lexical fault, or want of memory
abbrev pub IsFault : List ℕ → LexFault → Type 0
IsFault piece fault = IsFaultFrom false 0 piece fault
