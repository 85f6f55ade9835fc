-- A piece's symbols are storable, and no more than its bytes.
use Rattle.std.proofs.Common.{ℕ, ◌^◌, ◌≤◌, ◌<◌, List, [], ◌∷◌, length, Option, Some, None, arith}
use Rattle.std.specs.List.{AllByRecursion}
use Rattle.std.proofs.lemmas.Int.{ints}
use Rattle.std.proofs.lemmas.List.{length-map}
use Rattle.std.proofs.lemmas.List.Elements.{All-from_recursion, recursion_from_All}
use Rattle.pt_token.specs.declared.token.Token.{Token}
use Rattle.pt_token.specs.declared.token.TokenKind.{TokenKind}
use Rattle.pt_token.specs.declared.token.TokenKind.TheVariants as kind
use Rattle.pt_token.specs.Tokens.{IsLexed}
use Rattle.pt_token.proofs.Sizes.{IsNoLonger, no_more_tokens, no_longer_texts}
use Rattle.pt_parse_expr.specs.declared.alphabet.Mark.{Mark}
use Rattle.pt_parse_expr.specs.Symbols.{marked, reserved, symbol, symbol_of, symbols}
use Rattle.pt_parse_expr.specs.Limits.{IsStorableSymbol, AreStorableSymbols, AreStorable}

marked-storable : (mark : Option Mark) (bytes : List ℕ) → IsStorableSymbol (marked mark bytes)
marked-storable None bytes = tt
marked-storable (Some mark) bytes = tt

symbol_of-storable : (most : ℕ) → most < 2 ^ 32 → (k : TokenKind) (bytes : List ℕ) → IsNoLonger most k → IsStorableSymbol (symbol_of k bytes)
symbol_of-storable most few kind.Word bytes h = marked-storable (reserved bytes) bytes
symbol_of-storable most few kind.Quoted bytes h = tt
symbol_of-storable most few kind.Number bytes h = omega (arith, ints)
symbol_of-storable most few (kind.Text text) bytes h = omega (arith, few, h)
symbol_of-storable most few (kind.Hex text) bytes h = omega (arith, few, h)
symbol_of-storable most few kind.Sign bytes h = tt

each-storable : (most : ℕ) → most < 2 ^ 32 → (piece : List ℕ) (tokens : List Token) → AllByRecursion (λ t. IsNoLonger most t.kind) tokens
    → AllByRecursion (λ s. IsStorableSymbol s) (symbols piece tokens)
unfolding symbol symbols
each-storable most few piece [] all = tt
each-storable most few piece (t ∷ ts) all = (symbol_of-storable most few t.kind _ all.0, each-storable most few piece ts all.1)

pub symbols-storable : {piece : List ℕ} {tokens : List Token} → IsLexed piece tokens → length piece ≤ 2 ^ 20 → AreStorableSymbols (symbols piece tokens)
symbols-storable {piece} {tokens} d few =
    All-from_recursion (λ s. IsStorableSymbol s) (symbols piece tokens)
    (each-storable (length piece) (omega (arith, few)) piece tokens
    (recursion_from_All (λ t. IsNoLonger (length piece) t.kind) tokens (no_longer_texts d)))

pub symbols-count : {piece : List ℕ} {tokens : List Token} → IsLexed piece tokens → length (symbols piece tokens) ≤ length piece
unfolding symbols
symbols-count {piece} {tokens} d = omega (arith, length-map tokens (symbol piece), no_more_tokens d)

pub storable : {piece : List ℕ} {tokens : List Token} → IsLexed piece tokens → length piece ≤ 2 ^ 20 → AreStorable (symbols piece tokens)
storable d few = record { few = omega (arith, symbols-count d, few); each = symbols-storable d few }
