-- What the bytes of a token are, by its kind.
use Rattle.std.specs.Prelude.{ℕ, ◌-◌, ◌<◌, ◌≤◌, List, [], ◌∷◌, ◌++◌, length, map, slice_range, All, Contains, IsTrue}
use Rattle.pt_token.specs.Bytes.{is_digit, is_word_byte}
use Rattle.pt_token.specs.Tokens.{long_signs, short_signs}
use Rattle.pt_token.specs.declared.token.Token.{Token}
use Rattle.pt_token.specs.declared.token.TokenKind.{TokenKind}
use Rattle.pt_token.specs.declared.token.TokenKind.TheVariants.{Word, Quoted, Number, Text, Hex, Sign}

-- one or more letters, digits, '_' and '$'
pub record AreWordBytes (bytes : List ℕ) : Type 0 where
  pub some : 0 < length bytes
  pub each : All (λ b. IsTrue (is_word_byte b)) bytes

-- such bytes between backquotes
pub record AreQuoted (bytes : List ℕ) : Type 0 where
  pub marks : 2 ≤ length bytes
  pub between : AreWordBytes (slice_range bytes 1 (length bytes - 1))

-- the signs
abbrev pub signs : List (List ℕ)
signs = map (λ b. b ∷ []) short_signs ++ long_signs

-- the bytes are some that a token of that kind may have
abbrev pub AreOfKind : TokenKind → List ℕ → Type 0
AreOfKind Word bytes = AreWordBytes bytes
AreOfKind Quoted bytes = AreQuoted bytes
AreOfKind Number bytes = All (λ b. IsTrue (is_digit b)) bytes
AreOfKind (Text text) bytes = Unit {0}
AreOfKind (Hex text) bytes = Unit {0}
AreOfKind Sign bytes = Contains signs bytes

-- the token stands in the piece, at bytes of its kind
pub record IsPlaced (piece : List ℕ) (token : Token) : Type 0 where
  pub order : token.from ≤ token.to
  pub within : token.to ≤ length piece
  pub bytes : AreOfKind token.kind (slice_range piece token.from token.to)
