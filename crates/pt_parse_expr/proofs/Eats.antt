-- Each rule takes at least one symbol, and leaves no parenthesis open.
use Rattle.std.proofs.Common.{◌≡◌, ℕ, suc, ◌≤◌, ◌<◌, Bool, List, ◌∷◌, length, refl, arith}
use Rattle.pt_ast.specs.declared.tree.Op.{Op}
use Rattle.pt_ast.specs.declared.tree.Expr.{Expr}
use Rattle.pt_ast.specs.declared.tree.Cond.{Cond}
use Rattle.pt_parse_expr.specs.declared.alphabet.Mark.TheVariants.{Open, Close}
use Rattle.pt_parse_expr.specs.declared.alphabet.Symbol.{Symbol}
use Rattle.pt_parse_expr.specs.declared.alphabet.Symbol.TheVariants.{Fixed}
use Rattle.pt_parse_expr.specs.Grammar.{Symbols, Terms, Factors, IsSign, plus, minus, IsOp, times, div, percent, modulo, IsExpr, sum, AreTerms, no_term, term, IsTerm, product, AreFactors, no_factor, factor, IsFactor, bare, positive, negative, IsPrimary, number, text, hex, date, null, word, quoted, call, call_mod, parens, AreMore, no_more, more, IsNegation, without, with_not, IsCond, or, AreConjs, no_conj, conj, IsConj, and, AreNegs, no_neg, neg, IsNeg, plain, negated, IsTest, in_parens, compare, is_null, is_in, between}
use Rattle.pt_parse_expr.specs.Limits.{open_after, IsShallow}

-- some of the symbols are taken, and each parenthesis among them is closed there
pub record Eats (ts rest : Symbols) : Type 0 where
  pub shorter : length rest < length ts
  pub shallow : (most height : ℕ) → IsShallow most height ts → IsShallow most height rest

-- some or none of the symbols
pub record Keeps (ts rest : Symbols) : Type 0 where
  pub not_longer : length rest ≤ length ts
  pub shallow : (most height : ℕ) → IsShallow most height ts → IsShallow most height rest

-- a symbol that is no parenthesis
abbrev pub IsPlain : Symbol → Type 0
IsPlain s = (height : ℕ) → open_after s height ≡ height

pub one : {s : Symbol} {ts : Symbols} → IsPlain s → Eats (s ∷ ts) ts
one {ts} same = record { shorter = omega arith; shallow = λ most height h. rw (same height) at h.1 }

infixl 10 ◌▸◌
pub ◌▸◌ : {ts us rest : Symbols} → Eats ts us → Eats us rest → Eats ts rest
a ▸ b = record { shorter = omega (arith, a.shorter, b.shorter); shallow = λ most height h. b.shallow most height (a.shallow most height h) }

infixl 10 ◌▸*◌
pub ◌▸*◌ : {ts us rest : Symbols} → Eats ts us → Keeps us rest → Eats ts rest
a ▸* b = record { shorter = omega (arith, a.shorter, b.not_longer); shallow = λ most height h. b.shallow most height (a.shallow most height h) }

pub kept : {ts rest : Symbols} → Eats ts rest → Keeps ts rest
kept a = record { not_longer = omega (arith, a.shorter); shallow = a.shallow }

keeps : {ts : Symbols} → Keeps ts ts
keeps = record { not_longer = omega arith; shallow = λ most height h. h }

-- what stands between two parentheses
pub closes : {ts rest : Symbols} → Eats ts (Fixed Close ∷ rest) → Eats (Fixed Open ∷ ts) rest
closes a = record { shorter = omega (arith, a.shorter); shallow = λ most height h. (a.shallow most (suc height) h.1).1 }

pub sign-eats : {s : Symbol} {is_minus : Bool} {ts : Symbols} → IsSign s is_minus → Eats (s ∷ ts) ts
sign-eats plus = one (λ h. refl)
sign-eats minus = one (λ h. refl)

pub op-eats : {s : Symbol} {o : Op} {ts : Symbols} → IsOp s o → Eats (s ∷ ts) ts
op-eats times = one (λ h. refl)
op-eats div = one (λ h. refl)
op-eats percent = one (λ h. refl)
op-eats modulo = one (λ h. refl)

-- ---- expressions

mutual
  pub expr-eats : {ts rest : Symbols} {x : Expr} → IsExpr ts x rest → Eats ts rest
  expr-eats (sum t ts) = term-eats t ▸* terms-keep ts

  pub terms-keep : {ts rest : Symbols} {ps : Terms} → AreTerms ts ps rest → Keeps ts rest
  terms-keep no_term = keeps
  terms-keep (term s t ts) = kept (sign-eats s ▸ term-eats t ▸* terms-keep ts)

  pub term-eats : {ts rest : Symbols} {x : Expr} → IsTerm ts x rest → Eats ts rest
  term-eats (product f fs) = factor-eats f ▸* factors-keep fs

  pub factors-keep : {ts rest : Symbols} {ps : Factors} → AreFactors ts ps rest → Keeps ts rest
  factors-keep no_factor = keeps
  factors-keep (factor o f fs) = kept (op-eats o ▸ factor-eats f ▸* factors-keep fs)

  pub factor-eats : {ts rest : Symbols} {x : Expr} → IsFactor ts x rest → Eats ts rest
  factor-eats (bare p) = primary-eats p
  factor-eats (positive p) = one (λ h. refl) ▸ primary-eats p
  factor-eats (negative p) = one (λ h. refl) ▸ primary-eats p

  pub primary-eats : {ts rest : Symbols} {x : Expr} → IsPrimary ts x rest → Eats ts rest
  primary-eats number = one (λ h. refl)
  primary-eats text = one (λ h. refl)
  primary-eats hex = one (λ h. refl)
  primary-eats (date is) = one (λ h. refl) ▸ one (λ h. refl)
  primary-eats null = one (λ h. refl)
  primary-eats word = one (λ h. refl)
  primary-eats quoted = one (λ h. refl)
  primary-eats (call is e) = one (λ h. refl) ▸ closes (expr-eats e)
  primary-eats (call_mod e f) = one (λ h. refl) ▸ closes (expr-eats e ▸ one (λ h. refl) ▸ expr-eats f)
  primary-eats (parens e) = closes (expr-eats e)

pub more-keep : {ts rest : Symbols} {xs : List Expr} → AreMore ts xs rest → Keeps ts rest
more-keep no_more = keeps
more-keep (more e es) = kept (one (λ h. refl) ▸ expr-eats e ▸* more-keep es)

pub negation-keeps : {ts rest : Symbols} {is_not : Bool} → IsNegation ts is_not rest → Keeps ts rest
negation-keeps without = keeps
negation-keeps with_not = kept (one (λ h. refl))

-- ---- conditions

mutual
  pub cond-eats : {ts rest : Symbols} {c : Cond} → IsCond ts c rest → Eats ts rest
  cond-eats (or c cs) = conj-eats c ▸* conjs-keep cs

  pub conjs-keep : {ts rest : Symbols} {cs : List Cond} → AreConjs ts cs rest → Keeps ts rest
  conjs-keep no_conj = keeps
  conjs-keep (conj c cs) = kept (one (λ h. refl) ▸ conj-eats c ▸* conjs-keep cs)

  pub conj-eats : {ts rest : Symbols} {c : Cond} → IsConj ts c rest → Eats ts rest
  conj-eats (and c cs) = neg-eats c ▸* negs-keep cs

  pub negs-keep : {ts rest : Symbols} {cs : List Cond} → AreNegs ts cs rest → Keeps ts rest
  negs-keep no_neg = keeps
  negs-keep (neg c cs) = kept (one (λ h. refl) ▸ neg-eats c ▸* negs-keep cs)

  pub neg-eats : {ts rest : Symbols} {c : Cond} → IsNeg ts c rest → Eats ts rest
  neg-eats (plain t) = test-eats t
  neg-eats (negated t) = one (λ h. refl) ▸ test-eats t

  pub test-eats : {ts rest : Symbols} {c : Cond} → IsTest ts c rest → Eats ts rest
  test-eats (in_parens c) = closes (cond-eats c)
  test-eats (compare e f) = expr-eats e ▸ one (λ h. refl) ▸ expr-eats f
  test-eats (is_null e n) = expr-eats e ▸ one (λ h. refl) ▸* negation-keeps n ▸ one (λ h. refl)
  test-eats (is_in e n f fs) = expr-eats e ▸* negation-keeps n ▸ one (λ h. refl) ▸ closes (expr-eats f ▸* more-keep fs)
  test-eats (between e n f g) = expr-eats e ▸* negation-keeps n ▸ one (λ h. refl) ▸ expr-eats f ▸ one (λ h. refl) ▸ expr-eats g
