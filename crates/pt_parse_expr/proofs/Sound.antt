-- What the reading functions read is spelled there, by the rules.
use Rattle.std.proofs.Common.{◌≡◌, ℕ, zero, suc, Bool, true, false, List, [], ◌∷◌, Option, Some, None, IfSome, refl}
use Rattle.pt_ast.specs.declared.tree.Op.{Op}
use Rattle.pt_ast.specs.declared.tree.Op.TheVariants as op
use Rattle.pt_ast.specs.declared.tree.Func.{Func}
use Rattle.pt_ast.specs.declared.tree.Expr.{Expr}
use Rattle.pt_ast.specs.declared.tree.Expr.TheVariants as tree
use Rattle.pt_ast.specs.declared.tree.Cond.{Cond}
use Rattle.pt_ast.specs.declared.tree.Cond.TheVariants as cond
use Rattle.pt_parse_expr.specs.declared.alphabet.Mark.TheVariants.{Open, Close, Comma, Plus, Minus, Star, Percent, Compare, And, Between, Div, In, Is, Mod, Not, Null, Or}
use Rattle.pt_parse_expr.specs.declared.alphabet.Symbol.{Symbol}
use Rattle.pt_parse_expr.specs.declared.alphabet.Symbol.TheVariants.{Fixed, Word, Quoted, Number, Text, Hex}
use Rattle.pt_parse_expr.specs.declared.found.Found.{Found}
use Rattle.pt_parse_expr.specs.declared.found.Found.TheVariants.{Value, Test}
use Rattle.pt_parse_expr.specs.declared.found.Behind.{Behind}
use Rattle.pt_parse_expr.specs.declared.found.Behind.TheVariants as behind
use Rattle.pt_parse_expr.specs.Symbols.{func_of}
use Rattle.pt_parse_expr.specs.Grammar.{Symbols, is_date, IsSign, plus, minus, IsOp, times, div, percent, modulo, IsExpr, sum as sums, AreTerms, no_term, term as one_term, IsTerm, product, AreFactors, no_factor, factor as one_factor, IsFactor, bare, positive, negative, IsPrimary, number, text, hex, date, null as is_null_word, word, quoted, call, call_mod, parens, AreMore, no_more, more as one_more, IsNegation, without, with_not, IsCond, or, AreConjs, no_conj, conj, IsConj, and, AreNegs, no_neg, neg, IsNeg, plain, negated, IsTest, in_parens, compare, is_null, is_in, between}
use Rattle.pt_parse_expr.specs.Reader.{Reading, Reader, mapped, or_else, many, op_of, sign_of, close, closed, expr_in, as_expr, cond_in, as_cond, null, after_is, with_behind, dated, value, call_by, after_word, divided, divided_by, after_mod, primary, factor, operated, next_factor, product_after, term, signed, next_term, sum_after, sum, next_more, listed, member, up_to, from_low, range, among, behind_expr, compared, opened_by, opened, tested, negation, next_negation, and_by, and_after, conjunction, next_conjunction, or_by, or_after, either, found}
use Rattle.pt_parse_expr.proofs.Many.{Adds, many-sound}

-- what was read is spelled
abbrev pub Sound : {A : Type 0} → (Symbols → A → Symbols → Type 0) → Symbols → Reading A → Type 0
Sound R ts (Some p) = R ts p.0 p.1
Sound R ts None = Unit {0}

-- an expression, or what the rule for conditions says
abbrev pub Either : (Symbols → Cond → Symbols → Type 0) → Symbols → Found → Symbols → Type 0
Either R ts (Value x) rest = IsExpr ts x rest
Either R ts (Test c) rest = R ts c rest

-- with a parenthesis behind it
abbrev pub Closed : {A : Type 0} → (Symbols → A → Symbols → Type 0) → Symbols → A → Symbols → Type 0
Closed R ts x rest = R ts x (Fixed Close ∷ rest)

-- ---- steps

mapped-sound : {A B : Type 0} (R : Symbols → A → Symbols → Type 0) (S : Symbols → B → Symbols → Type 0) (f : A → B) (ts us : Symbols)
    → ((x : A) (rest : Symbols) → R ts x rest → S us (f x) rest) → (r : Reading A) → Sound R ts r → Sound S us (mapped f r)
mapped-sound R S f ts us step (Some p) d = step p.0 p.1 d
mapped-sound R S f ts us step None d = tt

or_else-sound : {A : Type 0} (R : Symbols → A → Symbols → Type 0) (ts : Symbols) (r other : Reading A) → Sound R ts r → Sound R ts other → Sound R ts (or_else r other)
or_else-sound R ts (Some p) other d e = d
or_else-sound R ts None other d e = e

close-sound : {A : Type 0} (R : Symbols → A → Symbols → Type 0) (ts : Symbols) (x : A) (us : Symbols) → R ts x us → Sound (Closed R) ts (close x us)
close-sound R ts x (Fixed Close ∷ us) d = d
close-sound R ts x _ d = tt

closed-sound : {A : Type 0} (R : Symbols → A → Symbols → Type 0) (ts : Symbols) (r : Reading A) → Sound R ts r → Sound (Closed R) ts (closed r)
closed-sound R ts (Some p) d = close-sound R ts p.0 p.1 d
closed-sound R ts None d = tt

expr_in-sound : (R : Symbols → Found → Symbols → Type 0) (ts : Symbols) (f : Found) (rest : Symbols) → R ts f rest
    → Sound (λ ts x rest. R ts (Value x) rest) ts (expr_in f rest)
expr_in-sound R ts (Value x) rest d = d
expr_in-sound R ts (Test c) rest d = tt

as_expr-sound : (R : Symbols → Found → Symbols → Type 0) (ts : Symbols) (r : Reading Found) → Sound R ts r
    → Sound (λ ts x rest. R ts (Value x) rest) ts (as_expr r)
as_expr-sound R ts (Some p) d = expr_in-sound R ts p.0 p.1 d
as_expr-sound R ts None d = tt

cond_in-sound : (R : Symbols → Found → Symbols → Type 0) (ts : Symbols) (f : Found) (rest : Symbols) → R ts f rest
    → Sound (λ ts c rest. R ts (Test c) rest) ts (cond_in f rest)
cond_in-sound R ts (Value x) rest d = tt
cond_in-sound R ts (Test c) rest d = d

as_cond-sound : (R : Symbols → Found → Symbols → Type 0) (ts : Symbols) (r : Reading Found) → Sound R ts r
    → Sound (λ ts c rest. R ts (Test c) rest) ts (as_cond r)
as_cond-sound R ts (Some p) d = cond_in-sound R ts p.0 p.1 d
as_cond-sound R ts None d = tt

-- the rule of a list, from that of its items
adds : {A : Type 0} (R : Symbols → A → Symbols → Type 0) (S : Symbols → List A → Symbols → Type 0) (ts us : Symbols)
    → ((x : A) (vs : Symbols) (xs : List A) (rest : Symbols) → R ts x vs → S vs xs rest → S us (x ∷ xs) rest)
    → (r : Reading A) → Sound R ts r → Adds S us r
adds R S ts us step (Some p) d = λ xs rest e. step p.0 p.1 xs rest d e
adds R S ts us step None d = tt

adds-mapped : {A B : Type 0} (R : Symbols → A → Symbols → Type 0) (S : Symbols → List B → Symbols → Type 0) (f : A → B) (ts us : Symbols)
    → ((x : A) (vs : Symbols) (ys : List B) (rest : Symbols) → R ts x vs → S vs ys rest → S us (f x ∷ ys) rest)
    → (r : Reading A) → Sound R ts r → Adds S us (mapped f r)
adds-mapped R S f ts us step (Some p) d = λ ys rest e. step p.0 p.1 ys rest d e
adds-mapped R S f ts us step None d = tt

-- ---- one symbol

op-sound : (s : Symbol) → IfSome (op_of s) (IsOp s)
op-sound (Fixed Star) = times
op-sound (Fixed Div) = div
op-sound (Fixed Percent) = percent
op-sound (Fixed Mod) = modulo
op-sound _ = tt

sign-sound : (s : Symbol) → IfSome (sign_of s) (IsSign s)
sign-sound (Fixed Plus) = plus
sign-sound (Fixed Minus) = minus
sign-sound _ = tt

dated-sound : (b : Bool) (name bytes : List ℕ) (ts : Symbols) → is_date name ≡ b → Sound IsPrimary (Word name ∷ Text bytes ∷ ts) (dated b name bytes ts)
dated-sound true name bytes ts is = date is
dated-sound false name bytes ts is = word

-- ---- expressions, where what stands in parentheses is read as it is spelled

module _ (inner : Reader Found) (nested : (ts : Symbols) → Sound (Either IsCond) ts (inner ts)) where
  value-sound : (ts : Symbols) → Sound (Closed IsExpr) ts (value inner ts)
  unfolding value
  value-sound ts = as_expr-sound (Closed (Either IsCond)) ts (closed (inner ts)) (closed-sound (Either IsCond) ts (inner ts) (nested ts))

  call_by-sound : (o : Option Func) (name : List ℕ) (ts : Symbols) → func_of name ≡ o → Sound IsPrimary (Word name ∷ Fixed Open ∷ ts) (call_by inner o name ts)
  call_by-sound (Some f) name ts is =
      or_else-sound IsPrimary (Word name ∷ Fixed Open ∷ ts) (mapped (tree.Call f) (value inner ts)) _
      (mapped-sound (Closed IsExpr) IsPrimary (tree.Call f) ts _ (λ x rest d. call is d) (value inner ts) (value-sound ts))
      word
  call_by-sound None name ts is = word

  after_word-sound : (name : List ℕ) (ts : Symbols) → Sound IsPrimary (Word name ∷ ts) (after_word inner name ts)
  unfolding after_word
  after_word-sound name (Fixed Open ∷ ts) = call_by-sound (func_of name) name ts refl
  after_word-sound name (Text bytes ∷ ts) = dated-sound (is_date name) name bytes ts refl
  after_word-sound name ts = word

  divided-sound : (ts : Symbols) (x : Expr) (us : Symbols) → IsExpr ts x us → Sound IsPrimary (Fixed Mod ∷ Fixed Open ∷ ts) (divided inner x us)
  divided-sound ts x (Fixed Comma ∷ us) d =
      mapped-sound (Closed IsExpr) IsPrimary (λ y. tree.Product x ((op.Mod, y) ∷ [])) us _ (λ y rest e. call_mod d e) (value inner us) (value-sound us)
  divided-sound ts x _ d = tt

  divided_by-sound : (ts : Symbols) (r : Reading Expr) → Sound IsExpr ts r → Sound IsPrimary (Fixed Mod ∷ Fixed Open ∷ ts) (divided_by inner r)
  divided_by-sound ts (Some p) d = divided-sound ts p.0 p.1 d
  divided_by-sound ts None d = tt

  after_mod-sound : (ts : Symbols) → Sound IsPrimary (Fixed Mod ∷ ts) (after_mod inner ts)
  unfolding after_mod
  after_mod-sound (Fixed Open ∷ ts) = divided_by-sound ts (as_expr (inner ts)) (as_expr-sound (Either IsCond) ts (inner ts) (nested ts))
  after_mod-sound _ = tt

  in_parens-sound : (ts : Symbols) (r : Reading Expr) → Sound (Closed IsExpr) ts r → Sound IsPrimary (Fixed Open ∷ ts) r
  in_parens-sound ts (Some p) d = parens d
  in_parens-sound ts None d = tt

  primary-sound : (ts : Symbols) → Sound IsPrimary ts (primary inner ts)
  unfolding primary
  primary-sound (Number n ∷ ts) = number
  primary-sound (Text bytes ∷ ts) = text
  primary-sound (Hex bytes ∷ ts) = hex
  primary-sound (Quoted name ∷ ts) = quoted
  primary-sound (Word name ∷ ts) = after_word-sound name ts
  primary-sound (Fixed Null ∷ ts) = is_null_word
  primary-sound (Fixed Mod ∷ ts) = after_mod-sound ts
  primary-sound (Fixed Open ∷ ts) = in_parens-sound ts (value inner ts) (value-sound ts)
  primary-sound _ = tt

  bare-sound : (ts : Symbols) (r : Reading Expr) → Sound IsPrimary ts r → Sound IsFactor ts r
  bare-sound ts (Some p) d = bare d
  bare-sound ts None d = tt

  positive-sound : (ts : Symbols) (r : Reading Expr) → Sound IsPrimary ts r → Sound IsFactor (Fixed Plus ∷ ts) r
  positive-sound ts (Some p) d = positive d
  positive-sound ts None d = tt

  factor-sound : (ts : Symbols) → Sound IsFactor ts (factor inner ts)
  unfolding factor
  factor-sound (Fixed Plus ∷ ts) = positive-sound ts (primary inner ts) (primary-sound ts)
  factor-sound (Fixed Minus ∷ ts) = mapped-sound IsPrimary IsFactor tree.Neg ts _ (λ x rest d. negative d) (primary inner ts) (primary-sound ts)
  factor-sound ts = bare-sound ts (primary inner ts) (primary-sound ts)

  operated-adds : (s : Symbol) (o : Option Op) (ts : Symbols) → IfSome o (IsOp s) → Adds AreFactors (s ∷ ts) (operated inner o ts)
  operated-adds s (Some o) ts is =
      adds-mapped IsFactor AreFactors (λ x. (o, x)) ts (s ∷ ts) (λ x vs ys rest d e. one_factor is d e) (factor inner ts) (factor-sound ts)
  operated-adds s None ts is = tt

  next_factor-adds : (ts : Symbols) → Adds AreFactors ts (next_factor inner ts)
  unfolding next_factor
  next_factor-adds [] = tt
  next_factor-adds (s ∷ ts) = operated-adds s (op_of s) ts (op-sound s)

  product_after-sound : (ts : Symbols) (r : Reading Expr) → Sound IsFactor ts r → Sound IsTerm ts (product_after inner r)
  product_after-sound ts (Some p) d = product d (many-sound (next_factor inner) AreFactors (λ ts. no_factor) next_factor-adds p.1)
  product_after-sound ts None d = tt

  term-sound : (ts : Symbols) → Sound IsTerm ts (term inner ts)
  unfolding term
  term-sound ts = product_after-sound ts (factor inner ts) (factor-sound ts)

  signed-adds : (s : Symbol) (o : Option Bool) (ts : Symbols) → IfSome o (IsSign s) → Adds AreTerms (s ∷ ts) (signed inner o ts)
  signed-adds s (Some o) ts is =
      adds-mapped IsTerm AreTerms (λ x. (o, x)) ts (s ∷ ts) (λ x vs ys rest d e. one_term is d e) (term inner ts) (term-sound ts)
  signed-adds s None ts is = tt

  next_term-adds : (ts : Symbols) → Adds AreTerms ts (next_term inner ts)
  unfolding next_term
  next_term-adds [] = tt
  next_term-adds (s ∷ ts) = signed-adds s (sign_of s) ts (sign-sound s)

  sum_after-sound : (ts : Symbols) (r : Reading Expr) → Sound IsTerm ts r → Sound IsExpr ts (sum_after inner r)
  sum_after-sound ts (Some p) d = sums d (many-sound (next_term inner) AreTerms (λ ts. no_term) next_term-adds p.1)
  sum_after-sound ts None d = tt

  pub sum-sound : (ts : Symbols) → Sound IsExpr ts (sum inner ts)
  unfolding sum
  sum-sound ts = sum_after-sound ts (term inner ts) (term-sound ts)

-- ---- what stands behind an expression

-- what makes a condition of any expression before it
abbrev pub IsBehind : Symbols → Behind → Symbols → Type 0
IsBehind us b rest = (ts : Symbols) (x : Expr) → IsExpr ts x us → IsTest ts (with_behind x b) rest

null-sound : (is_not : Bool) (us ts : Symbols) → IsNegation us is_not ts → Sound IsBehind (Fixed Is ∷ us) (null is_not ts)
null-sound is_not us (Fixed Null ∷ rest) n = λ ts x d. is_null d n
null-sound is_not us _ n = tt

after_is-sound : (ts : Symbols) → Sound IsBehind (Fixed Is ∷ ts) (after_is ts)
unfolding after_is
after_is-sound (Fixed Not ∷ ts) = null-sound true (Fixed Not ∷ ts) ts with_not
after_is-sound ts = null-sound false ts ts without

module _ (inner : Reader Found) (nested : (ts : Symbols) → Sound (Either IsCond) ts (inner ts)) where
  next_more-adds : (ts : Symbols) → Adds AreMore ts (next_more inner ts)
  unfolding next_more
  next_more-adds (Fixed Comma ∷ ts) = adds IsExpr AreMore ts _ (λ x vs xs rest d e. one_more d e) (sum inner ts) (sum-sound inner nested ts)
  next_more-adds _ = tt

  listed-sound : (is_not : Bool) (us ts : Symbols) (r : Reading Expr) → IsNegation us is_not (Fixed In ∷ Fixed Open ∷ ts) → Sound IsExpr ts r
      → Sound IsBehind us (listed inner is_not r)
  listed-sound is_not us ts (Some p) n first =
      mapped-sound (Closed AreMore) IsBehind (λ xs. behind.In is_not (p.0 ∷ xs)) p.1 us (λ xs rest more. λ vs x d. is_in d n first more)
      (closed (Some (many (next_more inner) p.1)))
      (closed-sound AreMore p.1 (Some (many (next_more inner) p.1)) (many-sound (next_more inner) AreMore (λ ts. no_more) next_more-adds p.1))
  listed-sound is_not us ts None n first = tt

  member-sound : (is_not : Bool) (us ts : Symbols) → IsNegation us is_not (Fixed In ∷ ts) → Sound IsBehind us (member inner is_not ts)
  unfolding member
  member-sound is_not us (Fixed Open ∷ ts) n = listed-sound is_not us ts (sum inner ts) n (sum-sound inner nested ts)
  member-sound is_not us _ n = tt

  up_to-sound : (is_not : Bool) (us ts : Symbols) (low : Expr) (vs : Symbols) → IsNegation us is_not (Fixed Between ∷ ts) → IsExpr ts low vs
      → Sound IsBehind us (up_to inner is_not low vs)
  up_to-sound is_not us ts low (Fixed And ∷ vs) n d =
      mapped-sound IsExpr IsBehind (behind.Between is_not low) vs us (λ high rest e. λ ws x c. between c n d e) (sum inner vs) (sum-sound inner nested vs)
  up_to-sound is_not us ts low _ n d = tt

  from_low-sound : (is_not : Bool) (us ts : Symbols) (r : Reading Expr) → IsNegation us is_not (Fixed Between ∷ ts) → Sound IsExpr ts r
      → Sound IsBehind us (from_low inner is_not r)
  from_low-sound is_not us ts (Some p) n d = up_to-sound is_not us ts p.0 p.1 n d
  from_low-sound is_not us ts None n d = tt

  range-sound : (is_not : Bool) (us ts : Symbols) → IsNegation us is_not (Fixed Between ∷ ts) → Sound IsBehind us (range inner is_not ts)
  unfolding range
  range-sound is_not us ts n = from_low-sound is_not us ts (sum inner ts) n (sum-sound inner nested ts)

  among-sound : (is_not : Bool) (us ts : Symbols) → IsNegation us is_not ts → Sound IsBehind us (among inner is_not ts)
  unfolding among
  among-sound is_not us (Fixed In ∷ ts) n = member-sound is_not us ts n
  among-sound is_not us (Fixed Between ∷ ts) n = range-sound is_not us ts n
  among-sound is_not us _ n = tt

  behind_expr-sound : (ts : Symbols) → Sound IsBehind ts (behind_expr inner ts)
  unfolding behind_expr
  behind_expr-sound (Fixed (Compare m) ∷ ts) =
      mapped-sound IsExpr IsBehind (behind.Compare m) ts _ (λ y rest e. λ us x d. compare d e) (sum inner ts) (sum-sound inner nested ts)
  behind_expr-sound (Fixed Is ∷ ts) = after_is-sound ts
  behind_expr-sound (Fixed Not ∷ ts) = among-sound true (Fixed Not ∷ ts) ts with_not
  behind_expr-sound ts = among-sound false ts ts without

-- ---- conditions

either_by : (R S : Symbols → Cond → Symbols → Type 0) (ts : Symbols) → ((c : Cond) (rest : Symbols) → R ts c rest → S ts c rest)
    → (f : Found) (rest : Symbols) → Either R ts f rest → Either S ts f rest
either_by R S ts step (Value x) rest d = d
either_by R S ts step (Test c) rest d = step c rest d

-- a rule for conditions that another has as its one part
as_part : (R S : Symbols → Cond → Symbols → Type 0) (ts : Symbols) → ((c : Cond) (rest : Symbols) → R ts c rest → S ts c rest)
    → (r : Reading Found) → Sound (Either R) ts r → Sound (Either S) ts r
as_part R S ts step (Some p) d = either_by R S ts step p.0 p.1 d
as_part R S ts step None d = tt

module _ (inner : Reader Found) (nested : (ts : Symbols) → Sound (Either IsCond) ts (inner ts)) where
  compared-sound : (ts : Symbols) (r : Reading Expr) → Sound IsExpr ts r → Sound (Either IsTest) ts (compared inner r)
  compared-sound ts (Some p) d =
      or_else-sound (Either IsTest) ts (mapped (λ b. Test (with_behind p.0 b)) (behind_expr inner p.1)) (Some (Value p.0, p.1))
      (mapped-sound IsBehind (Either IsTest) (λ b. Test (with_behind p.0 b)) p.1 ts (λ b rest makes. makes ts p.0 d)
      (behind_expr inner p.1) (behind_expr-sound inner nested p.1))
      d
  compared-sound ts None d = tt

  opened_by-sound : (ts : Symbols) (f : Found) (rest : Symbols) → Closed (Either IsCond) ts f rest → Sound (Either IsTest) (Fixed Open ∷ ts) (opened_by inner f rest)
  opened_by-sound ts (Value x) rest d =
      compared-sound _ (sum_after inner (product_after inner (Some (x, rest))))
      (sum_after-sound inner nested _ (product_after inner (Some (x, rest))) (product_after-sound inner nested _ (Some (x, rest)) (bare (parens d))))
  opened_by-sound ts (Test c) rest d = in_parens d

  opened-sound : (ts : Symbols) (r : Reading Found) → Sound (Closed (Either IsCond)) ts r → Sound (Either IsTest) (Fixed Open ∷ ts) (opened inner r)
  opened-sound ts (Some p) d = opened_by-sound ts p.0 p.1 d
  opened-sound ts None d = tt

  test-sound : (ts : Symbols) → Sound (Either IsTest) ts (tested inner ts)
  unfolding tested
  test-sound (Fixed Open ∷ ts) = opened-sound ts (closed (inner ts)) (closed-sound (Either IsCond) ts (inner ts) (nested ts))
  test-sound ts = compared-sound ts (sum inner ts) (sum-sound inner nested ts)

  negation-sound : (ts : Symbols) → Sound (Either IsNeg) ts (negation inner ts)
  unfolding negation
  negation-sound (Fixed Not ∷ ts) =
      mapped-sound IsTest (Either IsNeg) (λ c. Test (cond.Not c)) ts _ (λ c rest d. negated d)
      (as_cond (tested inner ts)) (as_cond-sound (Either IsTest) ts (tested inner ts) (test-sound ts))
  negation-sound ts = as_part IsTest IsNeg ts (λ c rest d. plain d) (tested inner ts) (test-sound ts)

  next_negation-adds : (ts : Symbols) → Adds AreNegs ts (next_negation inner ts)
  unfolding next_negation
  next_negation-adds (Fixed And ∷ ts) =
      adds IsNeg AreNegs ts _ (λ c us cs rest d e. neg d e) (as_cond (negation inner ts)) (as_cond-sound (Either IsNeg) ts (negation inner ts) (negation-sound ts))
  next_negation-adds _ = tt

  and_by-sound : (ts : Symbols) (f : Found) (rest : Symbols) → Either IsNeg ts f rest → Sound (Either IsConj) ts (and_by inner f rest)
  and_by-sound ts (Value x) rest d = d
  and_by-sound ts (Test c) rest d = and d (many-sound (next_negation inner) AreNegs (λ ts. no_neg) next_negation-adds rest)

  and_after-sound : (ts : Symbols) (r : Reading Found) → Sound (Either IsNeg) ts r → Sound (Either IsConj) ts (and_after inner r)
  and_after-sound ts (Some p) d = and_by-sound ts p.0 p.1 d
  and_after-sound ts None d = tt

  conjunction-sound : (ts : Symbols) → Sound (Either IsConj) ts (conjunction inner ts)
  unfolding conjunction
  conjunction-sound ts = and_after-sound ts (negation inner ts) (negation-sound ts)

  next_conjunction-adds : (ts : Symbols) → Adds AreConjs ts (next_conjunction inner ts)
  unfolding next_conjunction
  next_conjunction-adds (Fixed Or ∷ ts) =
      adds IsConj AreConjs ts _ (λ c us cs rest d e. conj d e) (as_cond (conjunction inner ts))
      (as_cond-sound (Either IsConj) ts (conjunction inner ts) (conjunction-sound ts))
  next_conjunction-adds _ = tt

  or_by-sound : (ts : Symbols) (f : Found) (rest : Symbols) → Either IsConj ts f rest → Sound (Either IsCond) ts (or_by inner f rest)
  or_by-sound ts (Value x) rest d = d
  or_by-sound ts (Test c) rest d = or d (many-sound (next_conjunction inner) AreConjs (λ ts. no_conj) next_conjunction-adds rest)

  or_after-sound : (ts : Symbols) (r : Reading Found) → Sound (Either IsConj) ts r → Sound (Either IsCond) ts (or_after inner r)
  or_after-sound ts (Some p) d = or_by-sound ts p.0 p.1 d
  or_after-sound ts None d = tt

  pub either-sound : (ts : Symbols) → Sound (Either IsCond) ts (either inner ts)
  unfolding either
  either-sound ts = or_after-sound ts (conjunction inner ts) (conjunction-sound ts)

-- ---- to any depth

pub found-sound : (depth : ℕ) (ts : Symbols) → Sound (Either IsCond) ts (found depth ts)
unfolding found
found-sound zero ts = tt
found-sound (suc depth) ts = either-sound (found depth) (found-sound depth) ts

pub expr-sound : (depth : ℕ) (ts : Symbols) → Sound IsExpr ts (sum (found depth) ts)
expr-sound depth ts = sum-sound (found depth) (found-sound depth) ts

pub cond-sound : (depth : ℕ) (ts : Symbols) → Sound IsCond ts (as_cond (either (found depth) ts))
cond-sound depth ts = as_cond-sound (Either IsCond) ts (either (found depth) ts) (either-sound (found depth) (found-sound depth) ts)
