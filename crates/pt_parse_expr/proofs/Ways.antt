-- How the reading functions come together: what each reads, from what the functions that it calls read.
use Rattle.std.proofs.Common.{◌≡◌, ℕ, ◌≤◌, Bool, true, false, List, [], ◌∷◌, length, Option, Some, None, refl, sym, ap, subst, ◌∙◌, arith}
use Rattle.std.proofs.lemmas.Bool.{true≢false}
use Rattle.pt_ast.specs.declared.tree.Func.{Func}
use Rattle.pt_ast.specs.declared.tree.Expr.{Expr}
use Rattle.pt_ast.specs.declared.tree.Expr.TheVariants as tree
use Rattle.pt_ast.specs.declared.tree.Cond.{Cond}
use Rattle.pt_ast.specs.declared.tree.Cond.TheVariants as cond
use Rattle.pt_parse_expr.specs.declared.alphabet.Mark.TheVariants.{Open, Close, Plus, Minus, Not}
use Rattle.pt_parse_expr.specs.declared.alphabet.Symbol.TheVariants.{Fixed, Text}
use Rattle.pt_parse_expr.specs.declared.found.Found.{Found}
use Rattle.pt_parse_expr.specs.declared.found.Found.TheVariants.{Value, Test}
use Rattle.pt_parse_expr.specs.declared.found.Behind.{Behind}
use Rattle.pt_parse_expr.specs.declared.found.Behind.TheVariants as behind
use Rattle.pt_parse_expr.specs.Symbols.{func_of}
use Rattle.pt_parse_expr.specs.Grammar.{Symbols, IsCond, is_date, sum_of, product_of, and_of, or_of}
use Rattle.pt_parse_expr.specs.Reader.{Reading, Reader, mapped, or_else, close, closed, expr_in, as_expr, cond_in, as_cond, with_behind, dated, value, call_by, after_word, primary, factor, next_factor, product_after, term, next_term, sum_after, sum, next_more, listed, behind_expr, compared, opened, tested, negation, next_negation, and_after, conjunction, next_conjunction, or_after, either}
use Rattle.pt_parse_expr.proofs.Sound.{Sound, Either}
use Rattle.pt_parse_expr.proofs.Eats.{Eats, expr-eats, cond-eats}
use Rattle.pt_parse_expr.proofs.Covers.{Covers, covers, exactly, with_many}
use Rattle.pt_parse_expr.proofs.Levels.{opens}

-- ---- nothing was read

none≢some : {A : Type 0} {p : A} → None ≡ Some p → ⊥
none≢some e = cc

-- an item as it is read
pub mapped-same : {A : Type 0} (r : Reading A) → r ≡ mapped (λ x. x) r
mapped-same (Some p) = refl
mapped-same None = refl

-- ---- what was read is no longer than what was there

abbrev pub Shrinks : {A : Type 0} → Symbols → Reading A → Type 0
Shrinks ts (Some p) = length p.1 ≤ length ts
Shrinks ts None = Unit {0}

closed-shrinks : (ts : Symbols) (f : Found) (us : Symbols) → length us ≤ length ts → Shrinks ts (as_expr (close f us))
closed-shrinks ts (Value x) (Fixed Close ∷ us) h = omega arith
closed-shrinks ts (Test c) (Fixed Close ∷ us) h = tt
closed-shrinks ts _ _ h = tt

either-eats : {ts rest : Symbols} (f : Found) → Either IsCond ts f rest → Eats ts rest
either-eats (Value x) d = expr-eats d
either-eats (Test c) d = cond-eats d

-- an expression in parentheses, where what stands there is read as it is spelled
pub value-shrinks : (inner : Reader Found) (ts : Symbols) → Sound (Either IsCond) ts (inner ts) → Shrinks ts (value inner ts)
unfolding value
value-shrinks inner ts sound = by_found (inner ts) sound where
  by_found : (r : Reading Found) → Sound (Either IsCond) ts r → Shrinks ts (as_expr (closed r))
  by_found (Some p) d = let e = either-eats p.0 d in closed-shrinks ts p.0 p.1 (omega (arith, e.shorter))
  by_found None d = tt

-- ---- as_expr and as_cond

as_cond-some : (r : Reading Found) (c : Cond) (rest : Symbols) → as_cond r ≡ Some (c, rest) → r ≡ Some (Test c, rest)
as_cond-some None c rest e = absurd (none≢some e)
as_cond-some (Some p) c rest e = by_found p.0 p.1 e where
  by_found : (f : Found) (us : Symbols) → cond_in f us ≡ Some (c, rest) → ◌≡◌ {A = Reading Found} (Some (f, us)) (Some (Test c, rest))
  by_found (Value x) us e = absurd (none≢some e)
  by_found (Test d) us e = ap (mapped Test) e

-- ---- what is made of what was read

compared-by : {goes_on : Symbols → Bool} {r : Reading Behind} {b : Behind} {rest : Symbols} (x : Expr) (other : Reading Found)
    → Covers goes_on r b rest
    → Covers goes_on (as_cond (or_else (mapped (λ b. Test (with_behind x b)) r) other)) (with_behind x b) rest
compared-by x other (covers far exact) = covers far (λ ends. let e = exact ends in (ap (with_behind x) e.0, e.1))

pub negated-covers : {goes_on : Symbols → Bool} {r : Reading Cond} {c : Cond} {rest : Symbols} → Covers goes_on r c rest
    → Covers goes_on (as_cond (mapped (λ c. Test (cond.Not c)) r)) (cond.Not c) rest
negated-covers (covers far exact) = covers far (λ ends. let e = exact ends in (ap cond.Not e.0, e.1))

-- the parts of a list that has one at least
abbrev pub in_list : Expr → List Expr → Expr × List Expr
in_list x xs = (x, xs)

module _ (inner : Reader Found) where
  -- ---- lists behind a part

  pub product_after-is : (r : Reading Expr) → with_many product_of (next_factor inner) r ≡ product_after inner r
  product_after-is (Some p) = refl
  product_after-is None = refl

  pub sum_after-is : (r : Reading Expr) → with_many sum_of (next_term inner) r ≡ sum_after inner r
  sum_after-is (Some p) = refl
  sum_after-is None = refl

  pub and_after-is : (r : Reading Found) → with_many and_of (next_negation inner) (as_cond r) ≡ as_cond (and_after inner r)
  and_after-is (Some p) = by_found p.0 p.1 where
    by_found : (f : Found) (us : Symbols) → with_many and_of (next_negation inner) (cond_in f us) ≡ as_cond (and_after inner (Some (f, us)))
    by_found (Value x) us = refl
    by_found (Test c) us = refl
  and_after-is None = refl

  pub or_after-is : (r : Reading Found) → with_many or_of (next_conjunction inner) (as_cond r) ≡ as_cond (or_after inner r)
  or_after-is (Some p) = by_found p.0 p.1 where
    by_found : (f : Found) (us : Symbols)
        → with_many or_of (next_conjunction inner) (cond_in f us) ≡ as_cond (or_after inner (Some (f, us)))
    by_found (Value x) us = refl
    by_found (Test c) us = refl
  or_after-is None = refl

  -- a list in parentheses, once it is read
  ended : Bool → Reading (Expr × List Expr) → Reading Behind
  ended is_not (Some q) = mapped (λ xs. behind.In is_not (q.0.0 ∷ xs)) (close q.0.1 q.1)
  ended is_not None = None

  listed-ended : (is_not : Bool) (r : Reading Expr) → listed inner is_not r ≡ ended is_not (with_many in_list (next_more inner) r)
  unfolding ended
  listed-ended is_not (Some p) = refl
  listed-ended is_not None = refl

  pub listed-is : (is_not : Bool) (r : Reading Expr) (x : Expr) (xs : List Expr) (rest : Symbols)
      → with_many in_list (next_more inner) r ≡ Some ((x, xs), Fixed Close ∷ rest) → listed inner is_not r ≡ Some (behind.In is_not (x ∷ xs), rest)
  unfolding ended
  listed-is is_not r x xs rest e = listed-ended is_not r ∙ ap (ended is_not) e

  -- ---- one symbol ahead

  -- a sign stands before no primary
  pub factor-bare : (ts : Symbols) {x : Expr} {rest : Symbols} → Covers opens (primary inner ts) x rest
      → Covers opens (factor inner ts) x rest
  unfolding primary factor
  factor-bare (Fixed Plus ∷ ts) c = elim c [ ]
  factor-bare (Fixed Minus ∷ ts) c = elim c [ ]
  factor-bare [] c = c
  factor-bare _ c = c

  -- NOT stands before no test
  pub negation-plain : {goes_on : Symbols → Bool} (ts : Symbols) {c : Cond} {rest : Symbols}
      → Covers goes_on (as_cond (tested inner ts)) c rest
      → Covers goes_on (as_cond (negation inner ts)) c rest
  unfolding negation tested sum term factor primary
  negation-plain (Fixed Not ∷ ts) c = elim c [ ]
  negation-plain [] c = c
  negation-plain _ c = c

  -- a word alone
  call_by-covers : (o : Option Func) (name : List ℕ) (ts : Symbols) → Shrinks ts (value inner ts)
      → Covers opens (call_by inner o name ts) (tree.Column name) (Fixed Open ∷ ts)
  call_by-covers None name ts shrinks = exactly refl
  call_by-covers (Some f) name ts shrinks = by_value (value inner ts) shrinks where
    by_value : (r : Reading Expr) → Shrinks ts r
        → Covers opens (or_else (mapped (tree.Call f) r) (Some (tree.Column name, Fixed Open ∷ ts))) (tree.Column name) (Fixed Open ∷ ts)
    by_value (Some p) shrinks = covers (omega (arith, shrinks)) (λ ends. absurd (true≢false ends))
    by_value None shrinks = exactly refl

  dated-covers : (b : Bool) (name bytes : List ℕ) (ts : Symbols) → Covers opens (dated b name bytes ts) (tree.Column name) (Text bytes ∷ ts)
  dated-covers true name bytes ts = covers (omega arith) (λ ends. absurd (true≢false ends))
  dated-covers false name bytes ts = exactly refl

  pub word-covers : (name : List ℕ) (ts : Symbols) → ((ts : Symbols) → Shrinks ts (value inner ts))
      → Covers opens (after_word inner name ts) (tree.Column name) ts
  unfolding after_word
  word-covers name (Fixed Open ∷ ts) shrinks = call_by-covers (func_of name) name ts (shrinks ts)
  word-covers name (Text bytes ∷ ts) shrinks = dated-covers (is_date name) name bytes ts
  word-covers name [] shrinks = exactly refl
  word-covers name _ shrinks = exactly refl

  -- ---- an expression, read where a condition may stand

  opened-by_sum : (p : Expr × Symbols) (r : Reading Found) → sum_after inner (product_after inner (as_expr r)) ≡ Some p
      → opened inner r ≡ compared inner (Some p)
  opened-by_sum p None e = absurd (none≢some e)
  opened-by_sum p (Some q) e = by_found q.0 q.1 e where
    by_found : (f : Found) (us : Symbols) → sum_after inner (product_after inner (expr_in f us)) ≡ Some p
        → opened inner (Some (f, us)) ≡ compared inner (Some p)
    by_found (Value x) us e = ap (compared inner) e
    by_found (Test c) us e = absurd (none≢some e)

  pub test-by_sum : (ts : Symbols) (p : Expr × Symbols) → sum inner ts ≡ Some p → tested inner ts ≡ compared inner (Some p)
  unfolding tested sum term factor primary value
  test-by_sum (Fixed Open ∷ ts) p e = opened-by_sum p (closed (inner ts)) e
  test-by_sum [] p e = ap (compared inner) e
  test-by_sum _ p e = ap (compared inner) e

  negation-by_sum : (ts : Symbols) (p : Expr × Symbols) → sum inner ts ≡ Some p → negation inner ts ≡ tested inner ts
  unfolding negation sum term factor primary
  negation-by_sum (Fixed Not ∷ ts) p e = absurd (none≢some e)
  negation-by_sum [] p e = refl
  negation-by_sum _ p e = refl

  pub either-by_sum : (ts : Symbols) (x : Expr) (rest : Symbols) → sum inner ts ≡ Some (x, rest) → behind_expr inner rest ≡ None
      → either inner ts ≡ Some (Value x, rest)
  unfolding either conjunction
  either-by_sum ts x rest e none =
      ap (λ r. or_after inner (and_after inner r)) (negation-by_sum ts (x, rest) e ∙ test-by_sum ts (x, rest) e
      ∙ ap (λ r. or_else (mapped (λ b. Test (with_behind x b)) r) (Some (Value x, rest))) none)

  -- ---- conditions

  pub opened-test : (r : Reading Found) (c : Cond) (rest : Symbols) → as_cond r ≡ Some (c, Fixed Close ∷ rest)
      → as_cond (opened inner (closed r)) ≡ Some (c, rest)
  opened-test r c rest e = ap (λ r. as_cond (opened inner (closed r))) (as_cond-some r c (Fixed Close ∷ rest) e)

  pub test-covers : {goes_on : Symbols → Bool} {b : Behind} {rest : Symbols} (ts : Symbols) (x : Expr) (us : Symbols)
      → sum inner ts ≡ Some (x, us)
      → Covers goes_on (behind_expr inner us) b rest → Covers goes_on (as_cond (tested inner ts)) (with_behind x b) rest
  test-covers {goes_on} {b} {rest} ts x us e c =
      subst (λ r. Covers goes_on (as_cond r) (with_behind x b) rest) (sym (test-by_sum ts (x, us) e)) (compared-by x (Some (Value x, us)) c)
