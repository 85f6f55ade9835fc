-- Where the parts of these statements end, and what an expression begins with.
use Rattle.std.proofs.Common.{◌≡◌, Bool, true, false, [], ◌∷◌, refl}
use Rattle.pt_ast.specs.declared.tree.Expr.{Expr}
use Rattle.pt_parse_expr.specs.declared.alphabet.Mark.TheVariants.{Close, Comma, Star, Other}
use Rattle.pt_parse_expr.specs.declared.alphabet.Reserved.TheVariants as word
use Rattle.pt_parse_expr.specs.declared.alphabet.Symbol.TheVariants.{Fixed}
use Rattle.pt_parse_expr.specs.Grammar.{Symbols, IsExpr, IsPrimary}
use Rattle.pt_parse_expr.specs.Grammar as grammar
use Rattle.pt_parse_expr.proofs.Levels.{sum_on, cond_on}
use Rattle.pt_parse_ddl.specs.Words.{the}
use Rattle.pt_parse_ddl.proofs.Exact.{Ends, at_comma as by_comma, at_close as by_close}

-- a list is at its end
pub data Finishes : Symbols → Type 0 where
  at_end : Finishes []
  at_close : {ts : Symbols} → Finishes (Fixed Close ∷ ts)
  at_from : {ts : Symbols} → Finishes (the word.From ∷ ts)
  at_where : {ts : Symbols} → Finishes (the word.Where ∷ ts)
  at_order : {ts : Symbols} → Finishes (the word.Order ∷ ts)
  at_limit : {ts : Symbols} → Finishes (the word.Limit ∷ ts)

-- an item of a list is at its end: with the list, or at a comma
pub data Stops : Symbols → Type 0 where
  at_comma : {ts : Symbols} → Stops (Fixed Comma ∷ ts)
  finished : {ts : Symbols} → Finishes ts → Stops ts

pub in_parens-stop : {ts : Symbols} → Ends ts → Stops ts
in_parens-stop by_comma = at_comma
in_parens-stop by_close = finished at_close

-- neither an expression nor a condition goes on there
pub sum-stops : {ts : Symbols} → Stops ts → sum_on ts ≡ false
sum-stops at_comma = refl
sum-stops (finished at_end) = refl
sum-stops (finished at_close) = refl
sum-stops (finished at_from) = refl
sum-stops (finished at_where) = refl
sum-stops (finished at_order) = refl
sum-stops (finished at_limit) = refl

pub cond-stops : {ts : Symbols} → Stops ts → cond_on ts ≡ false
cond-stops at_comma = refl
cond-stops (finished at_end) = refl
cond-stops (finished at_close) = refl
cond-stops (finished at_from) = refl
cond-stops (finished at_where) = refl
cond-stops (finished at_order) = refl
cond-stops (finished at_limit) = refl

-- ---- what no expression begins with

-- DEFAULT, or a star
abbrev pub is_apart : Symbols → Bool
is_apart (Fixed (Other word.Default) ∷ ts) = true
is_apart (Fixed Star ∷ ts) = true
is_apart _ = false

primary-begins : {ts rest : Symbols} {x : Expr} → IsPrimary ts x rest → is_apart ts ≡ false
primary-begins grammar.number = refl
primary-begins grammar.text = refl
primary-begins grammar.hex = refl
primary-begins (grammar.date is) = refl
primary-begins grammar.null = refl
primary-begins grammar.word = refl
primary-begins grammar.quoted = refl
primary-begins (grammar.call is d) = refl
primary-begins (grammar.call_mod d e) = refl
primary-begins (grammar.parens d) = refl

pub expr-begins : {ts rest : Symbols} {x : Expr} → IsExpr ts x rest → is_apart ts ≡ false
expr-begins (grammar.sum (grammar.product (grammar.bare p) fs) ps) = primary-begins p
expr-begins (grammar.sum (grammar.product (grammar.positive p) fs) ps) = refl
expr-begins (grammar.sum (grammar.product (grammar.negative p) fs) ps) = refl
