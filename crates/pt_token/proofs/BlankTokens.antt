-- Blank pieces have no tokens.
use Rattle.std.proofs.Common.{◌≡◌, ℕ, ◌+◌, Bool, List, [], refl}
use Rattle.pt_token.specs.declared.token.Token.{Token}
use Rattle.pt_token.specs.Gap.{AreGaps, done as none_left, more}
use Rattle.pt_token.specs.Tokens.{HasTokens, done, gap, token}

pub tokens_of_gaps : (inside : Bool) (place : ℕ) (bytes : List ℕ) → AreGaps inside bytes → HasTokens inside place bytes []
tokens_of_gaps inside place _ none_left = done
tokens_of_gaps inside place bytes (more {g = g} is rest) = gap is (tokens_of_gaps g.inside (place + g.length) _ rest)

gaps_of_tokens : (inside : Bool) (place : ℕ) (bytes : List ℕ) (tokens : List Token) → HasTokens inside place bytes tokens → tokens ≡ [] → AreGaps inside bytes
gaps_of_tokens inside place _ _ done none = none_left
gaps_of_tokens inside place bytes tokens (gap {g = g} is rest) none = more is (gaps_of_tokens g.inside (place + g.length) _ tokens rest none)
gaps_of_tokens inside place bytes _ (token no_gap is rest) none = cc

pub gaps_of_none : (inside : Bool) (place : ℕ) (bytes : List ℕ) → HasTokens inside place bytes [] → AreGaps inside bytes
gaps_of_none inside place bytes h = gaps_of_tokens inside place bytes [] h refl
