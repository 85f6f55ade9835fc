-- One step over a piece: a gap or a token. (In the shape of the code.)
use Rattle.std.specs.Prelude.{ℕ, ◌+◌, ◌<◌, ◌≤◌, Bool, List, [], ◌∷◌, ◌++◌, length, drop, Option, Some, None}
use Rattle.pt_token.specs.declared.token.Token.{Token}
use Rattle.pt_token.specs.declared.token.Lexeme.{Lexeme}
use Rattle.pt_token.specs.declared.lexer.Step.{Step}
use Rattle.pt_token.specs.declared.fault.LexFault.{LexFault}
use Rattle.pt_token.specs.Tokens.{HasTokens, IsFaultFrom}

-- what was found is some of the bytes
abbrev pub IsPart : Lexeme → List ℕ → Type 0
IsPart f bytes = (0 < f.length) × (f.length ≤ length bytes)

abbrev pub listed : Option Token → List Token
listed None = []
listed (Some t) = t ∷ []

-- the tokens and the fault behind the step are those of the bytes, but for its own token
pub record IsStep (inside : Bool) (place : ℕ) (bytes : List ℕ) (step : Step) : Type 0 where
  pub tokens : (tokens : List Token) → HasTokens step.inside (place + step.length) (drop step.length bytes) tokens → HasTokens inside place bytes (listed step.token ++ tokens)
  pub fault : (fault : LexFault) → IsFaultFrom step.inside (place + step.length) (drop step.length bytes) fault → IsFaultFrom inside place bytes fault
  pub some : 0 < step.length
  pub within : step.length ≤ length bytes
