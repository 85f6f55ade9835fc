-- What can go on behind a part of an expression or of a condition.
use Rattle.std.proofs.Common.{◌≡◌, Bool, true, false, ◌||◌, [], ◌∷◌, Option, Some, None, is_some, refl}
use Rattle.std.proofs.lemmas.Bool.{or_parts, true≢false}
use Rattle.pt_ast.specs.declared.tree.Op.{Op}
use Rattle.pt_parse_expr.specs.declared.alphabet.Mark.TheVariants.{Open, Comma, And, Or}
use Rattle.pt_parse_expr.specs.declared.alphabet.Symbol.{Symbol}
use Rattle.pt_parse_expr.specs.declared.alphabet.Symbol.TheVariants.{Fixed, Text}
use Rattle.pt_parse_expr.specs.Grammar.{Symbols, IsSign, plus, minus, IsOp, times, div, percent, modulo}
use Rattle.pt_parse_expr.specs.Reader.{Reader, mapped, factor, term, op_of, sign_of, operated, next_factor, signed, next_term, next_more, next_negation, next_conjunction}
use Rattle.pt_parse_expr.specs.declared.found.Found.{Found}

-- ---- behind one symbol

abbrev behind_word : Symbol → Bool
behind_word (Fixed Open) = true
behind_word (Text bytes) = true
behind_word _ = false

abbrev is_comma : Symbol → Bool
is_comma (Fixed Comma) = true
is_comma _ = false

abbrev is_and : Symbol → Bool
is_and (Fixed And) = true
is_and _ = false

abbrev is_or : Symbol → Bool
is_or (Fixed Or) = true
is_or _ = false

-- the test of the first symbol
abbrev first : (Symbol → Bool) → Symbols → Bool
first test [] = false
first test (s ∷ ts) = test s

-- ---- the levels

-- a word may be a call or a date
abbrev pub opens : Symbols → Bool
opens ts = first behind_word ts

abbrev pub term_on : Symbols → Bool
term_on ts = opens ts || first (λ s. is_some (op_of s)) ts

abbrev pub sum_on : Symbols → Bool
sum_on ts = term_on ts || first (λ s. is_some (sign_of s)) ts

abbrev pub more_on : Symbols → Bool
more_on ts = sum_on ts || first is_comma ts

abbrev pub conj_on : Symbols → Bool
conj_on ts = sum_on ts || first is_and ts

abbrev pub cond_on : Symbols → Bool
cond_on ts = conj_on ts || first is_or ts

-- where the larger level ends, so does the smaller
pub ends-left : (a b : Bool) → a || b ≡ false → a ≡ false
ends-left a b e = (or_parts a b e).0

-- ---- where a level ends, there is no item more

module _ (inner : Reader Found) where
  no_op : (o : Option Op) (ts : Symbols) → is_some o ≡ false → operated inner o ts ≡ None
  no_op None ts e = refl
  no_op (Some o) ts e = absurd (true≢false e)

  no_sign : (o : Option Bool) (ts : Symbols) → is_some o ≡ false → signed inner o ts ≡ None
  no_sign None ts e = refl
  no_sign (Some o) ts e = absurd (true≢false e)

  pub no_factor_more : (ts : Symbols) → term_on ts ≡ false → next_factor inner ts ≡ None
  unfolding next_factor
  no_factor_more [] e = refl
  no_factor_more (s ∷ ts) e = no_op (op_of s) ts (or_parts (behind_word s) (is_some (op_of s)) e).1

  pub no_term_more : (ts : Symbols) → sum_on ts ≡ false → next_term inner ts ≡ None
  unfolding next_term
  no_term_more [] e = refl
  no_term_more (s ∷ ts) e = no_sign (sign_of s) ts (or_parts (term_on (s ∷ ts)) (is_some (sign_of s)) e).1

  no_comma : (ts : Symbols) → first is_comma ts ≡ false → next_more inner ts ≡ None
  unfolding next_more
  no_comma [] e = refl
  no_comma (Fixed Comma ∷ ts) e = absurd (true≢false e)
  no_comma _ e = refl

  pub no_expr_more : (ts : Symbols) → more_on ts ≡ false → next_more inner ts ≡ None
  no_expr_more ts e = no_comma ts (or_parts (sum_on ts) (first is_comma ts) e).1

  no_and : (ts : Symbols) → first is_and ts ≡ false → next_negation inner ts ≡ None
  unfolding next_negation
  no_and [] e = refl
  no_and (Fixed And ∷ ts) e = absurd (true≢false e)
  no_and _ e = refl

  pub no_negation_more : (ts : Symbols) → conj_on ts ≡ false → next_negation inner ts ≡ None
  no_negation_more ts e = no_and ts (or_parts (sum_on ts) (first is_and ts) e).1

  no_or : (ts : Symbols) → first is_or ts ≡ false → next_conjunction inner ts ≡ None
  unfolding next_conjunction
  no_or [] e = refl
  no_or (Fixed Or ∷ ts) e = absurd (true≢false e)
  no_or _ e = refl

  pub no_conjunction_more : (ts : Symbols) → cond_on ts ≡ false → next_conjunction inner ts ≡ None
  no_conjunction_more ts e = no_or ts (or_parts (conj_on ts) (first is_or ts) e).1

-- ---- an item more stands where the smaller level ends

pub sign-ends : {s : Symbol} {is_minus : Bool} (ts : Symbols) → IsSign s is_minus → term_on (s ∷ ts) ≡ false
sign-ends ts plus = refl
sign-ends ts minus = refl

pub op-ends : {s : Symbol} {o : Op} (ts : Symbols) → IsOp s o → opens (s ∷ ts) ≡ false
op-ends ts times = refl
op-ends ts div = refl
op-ends ts percent = refl
op-ends ts modulo = refl

module _ (inner : Reader Found) where
  pub sign-reads : {s : Symbol} {is_minus : Bool} (ts : Symbols) → IsSign s is_minus
      → next_term inner (s ∷ ts) ≡ mapped (λ x. (is_minus, x)) (term inner ts)
  unfolding next_term
  sign-reads ts plus = refl
  sign-reads ts minus = refl

  pub op-reads : {s : Symbol} {o : Op} (ts : Symbols) → IsOp s o → next_factor inner (s ∷ ts) ≡ mapped (λ x. (o, x)) (factor inner ts)
  unfolding next_factor
  op-reads ts times = refl
  op-reads ts div = refl
  op-reads ts percent = refl
  op-reads ts modulo = refl
