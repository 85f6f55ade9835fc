-- What symbols a piece has: each token together with its bytes.
use Rattle.std.specs.Prelude.{ℕ, ◌-◌, ◌^◌, if◌then◌else◌, pos, min, List, [], ◌∷◌, map, length, slice_range, Option, Some, None, unwrap_or}
use Rattle.std.specs.Str.{str_eq_ignore_ascii_case}
use Rattle.pt_ast.specs.declared.tree.Func.{Func}
use Rattle.pt_token.specs.Bytes.{digits_number}
use Rattle.pt_token.specs.declared.token.Token.{Token}
use Rattle.pt_token.specs.declared.token.TokenKind.{TokenKind}
use Rattle.pt_token.specs.declared.token.TokenKind.TheVariants as kind
use Rattle.pt_parse_expr.specs.declared.alphabet.Mark.{Mark}
use Rattle.pt_parse_expr.specs.declared.alphabet.Mark.TheVariants.{Percent}
use Rattle.pt_parse_expr.specs.declared.alphabet.Symbol.{Symbol}
use Rattle.pt_parse_expr.specs.declared.alphabet.Symbol.TheVariants.{Fixed, Word, Quoted, Number, Text, Hex}
use Rattle.pt_parse_expr.specs.Words.{reserved_words, sign_marks, function_names}

-- what stands beside a word in a table, ignoring ASCII case
unfoldable pub lookup : {A : Type 0} → List (List ℕ × A) → List ℕ → Option A
lookup [] word = None
lookup (entry ∷ table) word = if str_eq_ignore_ascii_case entry.0 word then Some entry.1 else lookup table word

-- the reserved word that a word is
unfoldable pub reserved : List ℕ → Option Mark
reserved word = lookup reserved_words word

-- what a sign stands for
unfoldable pub mark_of_sign : List ℕ → Option Mark
mark_of_sign bytes = lookup sign_marks bytes

-- the function of one expression that has this name
unfoldable pub func_of : List ℕ → Option Func
func_of name = lookup function_names name

-- the number that digits write; one above 2^127 - 1 counts as 2^127 - 1
unfoldable pub number : List ℕ → ℕ
number digits = min (digits_number digits) (2 ^ 127 - 1)

-- ---- symbols

abbrev pub marked : Option Mark → List ℕ → Symbol
marked (Some mark) bytes = Fixed mark
marked None bytes = Word bytes

-- a token of that kind, with its bytes; a sign that there isn't stands as `%`
abbrev pub symbol_of : TokenKind → List ℕ → Symbol
symbol_of kind.Word bytes = marked (reserved bytes) bytes
symbol_of kind.Quoted bytes = Quoted (slice_range bytes 1 (length bytes - 1))
symbol_of kind.Number bytes = Number (pos (number bytes))
symbol_of (kind.Text text) bytes = Text text
symbol_of (kind.Hex text) bytes = Hex text
symbol_of kind.Sign bytes = Fixed (unwrap_or (mark_of_sign bytes) Percent)

-- a token together with its bytes of the piece
unfoldable pub symbol : List ℕ → Token → Symbol
symbol piece token = symbol_of token.kind (slice_range piece token.from token.to)

unfoldable pub symbols : List ℕ → List Token → List Symbol
symbols piece tokens = map (symbol piece) tokens
