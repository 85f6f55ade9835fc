-- How deep the parentheses of symbols nest, how long the names of tokens are, and which symbols are storable.
use Rattle.std.specs.Prelude.{ℕ, suc, pred, ◌-◌, ◌<◌, ◌≤◌, List, [], ◌∷◌, take, All, Any}
use Rattle.std.specs.List.{fold}
use Rattle.pt_ast.specs.Storable.{IsCounted, IsNotNegative}
use Rattle.pt_token.specs.declared.token.Token.{Token}
use Rattle.pt_token.specs.declared.token.TokenKind.{TokenKind}
use Rattle.pt_token.specs.declared.token.TokenKind.TheVariants as kind
use Rattle.pt_parse_expr.specs.declared.alphabet.Mark.TheVariants.{Open, Close}
use Rattle.pt_parse_expr.specs.declared.alphabet.Symbol.{Symbol}
use Rattle.pt_parse_expr.specs.declared.alphabet.Symbol.TheVariants.{Fixed, Number, Text, Hex}
use Rattle.pt_parse_expr.specs.Grammar.{Symbols}

-- how many parentheses are open behind a symbol, never below none
abbrev pub open_after : Symbol → ℕ → ℕ
open_after (Fixed Open) height = suc height
open_after (Fixed Close) height = pred height
open_after _ height = height

-- behind each of the symbols at most this many parentheses are open, where so many were open before them
abbrev pub IsShallow : ℕ → ℕ → Symbols → Type 0
IsShallow most height [] = Unit {0}
IsShallow most height (s ∷ ts) = (open_after s height ≤ most) × IsShallow most (open_after s height) ts

-- how many are open behind all of the symbols
abbrev pub open_behind : Symbols → ℕ
open_behind symbols = fold (λ height s. open_after s height) 0 symbols

-- more than 64 are open at once: behind some of the symbols from the first one on
abbrev pub IsDeep : Symbols → Type 0
IsDeep symbols = (n : ℕ) × (64 < open_behind (take n symbols))

-- the characters of a name; the backquotes of a quoted one don't count
abbrev pub name_length : TokenKind → ℕ → ℕ
name_length kind.Word length = length
name_length kind.Quoted length = length - 2
name_length _ length = 0

-- a name has more than 64 characters
abbrev pub IsLong : List Token → Type 0
IsLong tokens = Any (λ token. 64 < name_length token.kind (token.to - token.from)) tokens

-- a number isn't negative, and a text has fewer than 2^32 bytes
abbrev pub IsStorableSymbol : Symbol → Type 0
IsStorableSymbol (Number n) = IsNotNegative n
IsStorableSymbol (Text bytes) = IsCounted bytes
IsStorableSymbol (Hex bytes) = IsCounted bytes
IsStorableSymbol _ = Unit {0}

-- each is so
abbrev pub AreStorableSymbols : Symbols → Type 0
AreStorableSymbols symbols = All (λ s. IsStorableSymbol s) symbols

-- Fewer than 2^32 such symbols. What they spell is storable, where they aren't deep.
pub record AreStorable (symbols : Symbols) : Type 0 where
  pub few : IsCounted symbols
  pub each : AreStorableSymbols symbols
