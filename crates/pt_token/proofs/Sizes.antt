-- A piece has no more tokens than bytes, and its texts are no longer than it.
use Rattle.std.proofs.Common.{◌≡◌, ℕ, ◌+◌, ◌-◌, ◌≤◌, ◌<◌, Bool, true, false, cond, List, [], ◌∷◌, length, take, drop, Option, Some, None, refl, ap, ◌∙◌, sym, subst, arith, length-append, length-take, length-drop}
use Rattle.std.specs.Prelude.{All, ◌==◌, ◌||◌, ◌&&◌, slice_index, nat_lt}
use Rattle.std.specs.List.{AllByRecursion, take_while, prefix_len}
use Rattle.std.proofs.lemmas.List.Elements.{All-from_recursion}
use Rattle.std.proofs.lemmas.List.Sums.{take_while-cons}
use Rattle.pt_token.specs.declared.bytes.Class.{Class}
use Rattle.pt_token.specs.declared.bytes.Class.TheVariants.{Digit, HexDigit, WordByte}
use Rattle.pt_token.specs.declared.quoting.Quoting.{Quoting}
use Rattle.pt_token.specs.declared.quoting.Quoting.TheVariants.{Within, Escaped, Marked}
use Rattle.pt_token.specs.declared.token.Token.{Token}
use Rattle.pt_token.specs.declared.token.TokenKind.{TokenKind}
use Rattle.pt_token.specs.declared.token.TokenKind.TheVariants as kind
use Rattle.pt_token.specs.declared.token.Lexeme.{Lexeme}
use Rattle.pt_token.specs.Bytes.{begins_word, front, is_digit, is_in, is_quote}
use Rattle.pt_token.specs.Quoting.{added, behind_byte, content, escaped, hex_bytes, text_end}
use Rattle.pt_token.specs.Tokens.{HasTokens, IsLexed, done, gap, token, hex, hex_digits, is_hex, is_long_sign, is_short_sign, next_token, number_token, or_else, quoted, quoted_by, sign, text, text_by, word}

-- ---- texts

-- a backslash adds nothing, so the byte behind it may add two
abbrev owed : Quoting → ℕ
owed Escaped = 1
owed _ = 0

abbrev IsShort : List ℕ → Type 0
IsShort bytes = length bytes ≤ 2

short_if : (test : Bool) (bytes other : List ℕ) → IsShort bytes → IsShort other → IsShort (cond test bytes other)
short_if true bytes other h i = h
short_if false bytes other h i = i

escaped-le : (b : ℕ) → IsShort (escaped b)
escaped-le b =
    short_if (b == 48) _ _ (omega arith) (short_if (b == 98) _ _ (omega arith) (short_if (b == 116) _ _ (omega arith)
    (short_if (b == 110) _ _ (omega arith) (short_if (b == 114) _ _ (omega arith) (short_if (b == 90) _ _ (omega arith)
    (short_if (b == 37 || b == 95) _ _ (omega arith) (omega arith)))))))

within-le : (is_slash is_mark : Bool) (b : ℕ)
    → length (cond is_slash [] (b ∷ [])) + owed (cond is_slash Escaped (cond is_mark Marked Within)) ≤ 1
within-le true is_mark b = omega arith
within-le false true b = omega arith
within-le false false b = omega arith

added-le : (mark : ℕ) (at : Quoting) (b : ℕ) → length (added at b) + owed (behind_byte mark at b) ≤ 1 + owed at
added-le mark Within b = within-le (b == 92) (b == mark) b
added-le mark Escaped b = omega (arith, escaped-le b)
added-le mark Marked b = omega arith

content-le : (mark : ℕ) (at : Quoting) (bytes : List ℕ) → length (content mark at bytes) ≤ length bytes + owed at
unfolding content
content-le mark at [] = omega arith
content-le mark at (b ∷ bytes) =
    omega (arith, length-append (added at b) (content mark (behind_byte mark at b) bytes), added-le mark at b, content-le mark (behind_byte mark at b) bytes)

hex-le : (digits : List ℕ) → length (hex_bytes digits) ≤ length digits
unfolding hex_bytes
hex-le [] = omega arith
hex-le (high ∷ []) = omega arith
hex-le (high ∷ low ∷ digits) = omega (arith, hex-le digits)

-- ---- one token

-- a text has no more bytes than this
abbrev pub IsNoLonger : ℕ → TokenKind → Type 0
IsNoLonger most (kind.Text text) = length text ≤ most
IsNoLonger most (kind.Hex text) = length text ≤ most
IsNoLonger most _ = Unit {0}

-- a token, where there is one, has a byte at least
abbrev Takes : ℕ → Option Lexeme → Type 0
Takes most None = Unit {0}
Takes most (Some f) = (0 < f.length) × IsNoLonger most f.kind

takes_either : (most : ℕ) (o other : Option Lexeme) → Takes most o → Takes most other → Takes most (or_else o other)
takes_either most None other h i = i
takes_either most (Some f) other h i = h

takes_if : (most : ℕ) (test : Bool) (o other : Option Lexeme) → (test ≡ true → Takes most o) → Takes most other → Takes most (cond test o other)
takes_if most true o other h i = h refl
takes_if most false o other h i = i

front-some : (class : Class) (bytes : List ℕ) → is_in class 0 ≡ false → is_in class (slice_index bytes 0) ≡ true → 0 < length (front class bytes)
front-some class [] none is = let bad : false ≡ true = sym none ∙ is in cc
front-some class (b ∷ bytes) none is =
    let same : take_while (is_in class) (b ∷ bytes) ≡ b ∷ take_while (is_in class) bytes =
    take_while-cons (is_in class) b bytes ∙ ap (λ t. cond t (b ∷ take_while (is_in class) bytes) []) is in
    omega (arith, ap length same)

front-le : (class : Class) (bytes : List ℕ) → length (front class bytes) ≤ length bytes
front-le class bytes = omega (arith, length-take (prefix_len (is_in class) bytes) bytes)

hex-takes : (bytes : List ℕ) → Takes (length bytes) (hex bytes)
hex-takes bytes =
    takes_if (length bytes) (is_hex bytes) _ None
    (λ is. (omega arith, omega (arith, hex-le (hex_digits bytes), front-le HexDigit (drop 2 bytes), length-drop 2 bytes))) tt

word-begins : (b : ℕ) → begins_word b ≡ true → is_in WordByte b ≡ true
word-begins b is = ap (λ t. t || is_digit b) is

word-takes : (bytes : List ℕ) → Takes (length bytes) (word bytes)
word-takes bytes =
    takes_if (length bytes) (begins_word (slice_index bytes 0)) _ None
    (λ is. (front-some WordByte bytes refl (word-begins (slice_index bytes 0) is), tt)) tt

both : (a b : Bool) → (a && b) ≡ true → a ≡ true
both true b is = refl
both false b is = is

number-takes : (bytes : List ℕ) → Takes (length bytes) (number_token bytes)
number-takes bytes =
    takes_if (length bytes) (is_digit (slice_index bytes 0) && length (front Digit bytes) == length (front WordByte bytes)) _ None
    (λ is. (front-some Digit bytes refl (both (is_digit (slice_index bytes 0)) _ is), tt)) tt

quoted-takes : (bytes : List ℕ) → Takes (length bytes) (quoted bytes)
quoted-takes bytes =
    takes_if (length bytes) (slice_index bytes 0 == 96) (quoted_by n bytes) None
    (λ is. takes_if (length bytes) (nat_lt 0 n && slice_index bytes (n + 1) == 96) _ None (λ named. (omega arith, tt)) tt) tt
  where
    n : ℕ
    n = length (front WordByte (drop 1 bytes))

text_by-takes : (most : ℕ) (o : Option ℕ) (mark : ℕ) (bytes : List ℕ) → length bytes ≤ most → Takes most (text_by o mark bytes)
text_by-takes most None mark bytes h = tt
text_by-takes most (Some n) mark bytes h = (omega arith, omega (arith, h, content-le mark Within (take (n - 1) bytes), length-take (n - 1) bytes))

text-takes : (bytes : List ℕ) → Takes (length bytes) (text bytes)
text-takes bytes =
    takes_if (length bytes) (is_quote (slice_index bytes 0)) _ None
    (λ is. text_by-takes (length bytes) (text_end (slice_index bytes 0) Within (drop 1 bytes)) (slice_index bytes 0) (drop 1 bytes) (omega (arith, length-drop 1 bytes))) tt

sign-takes : (bytes : List ℕ) → Takes (length bytes) (sign bytes)
sign-takes bytes =
    takes_if (length bytes) (is_long_sign bytes) _ _ (λ is. (omega arith, tt))
    (takes_if (length bytes) (is_short_sign (slice_index bytes 0)) _ None (λ is. (omega arith, tt)) tt)

token-takes : (bytes : List ℕ) → Takes (length bytes) (next_token bytes)
unfolding next_token
token-takes bytes =
    takes_either (length bytes) (hex bytes) _ (hex-takes bytes)
    (takes_either (length bytes) (word bytes) _ (word-takes bytes)
    (takes_either (length bytes) (number_token bytes) _ (number-takes bytes)
    (takes_either (length bytes) (quoted bytes) _ (quoted-takes bytes)
    (takes_either (length bytes) (text bytes) _ (text-takes bytes) (sign-takes bytes)))))

no_token : next_token [] ≡ None
unfolding next_token
no_token = refl

-- ---- the tokens of a piece

tokens-count : {inside : Bool} {place : ℕ} {bytes : List ℕ} {tokens : List Token} → HasTokens inside place bytes tokens → length tokens ≤ length bytes
tokens-count done = omega arith
tokens-count (gap {bytes = bytes} {g = g} is h) = omega (arith, length-drop g.length bytes, tokens-count h)
tokens-count (token {bytes = []} {f = f} none is h) = let bad : None ≡ Some f = sym no_token ∙ is in cc
tokens-count (token {bytes = b ∷ bytes} {f = f} none is h) =
    let takes = subst (Takes (length (b ∷ bytes))) is (token-takes (b ∷ bytes)) in
    omega (arith, takes.0, length-drop f.length (b ∷ bytes), tokens-count h)

longer : (few most : ℕ) → few ≤ most → (k : TokenKind) → IsNoLonger few k → IsNoLonger most k
longer few most more (kind.Text text) h = omega (arith, more, h)
longer few most more (kind.Hex text) h = omega (arith, more, h)
longer few most more _ h = tt

tokens-short : (most : ℕ) {inside : Bool} {place : ℕ} {bytes : List ℕ} {tokens : List Token} → HasTokens inside place bytes tokens → length bytes ≤ most
    → AllByRecursion (λ t. IsNoLonger most t.kind) tokens
tokens-short most done h = tt
tokens-short most (gap {bytes = bytes} {g = g} is d) h = tokens-short most d (omega (arith, h, length-drop g.length bytes))
tokens-short most (token {bytes = bytes} {f = f} none is d) h =
    let takes = subst (Takes (length bytes)) is (token-takes bytes) in
    (longer (length bytes) most h f.kind takes.1, tokens-short most d (omega (arith, h, length-drop f.length bytes)))

pub no_more_tokens : {piece : List ℕ} {tokens : List Token} → IsLexed piece tokens → length tokens ≤ length piece
no_more_tokens d = tokens-count d

pub no_longer_texts : {piece : List ℕ} {tokens : List Token} → IsLexed piece tokens → All (λ t. IsNoLonger (length piece) t.kind) tokens
no_longer_texts {piece} {tokens} d = All-from_recursion (λ t. IsNoLonger (length piece) t.kind) tokens (tokens-short (length piece) d (omega arith))
