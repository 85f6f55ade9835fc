-- What comes after a spelling plays no part in it.
use Rattle.std.proofs.Common.{◌≡◌, Bool, List, [], ◌∷◌, ◌++◌, refl, ap, ◌∙◌, sym, subst, append_assoc}
use Rattle.pt_ast.specs.declared.tree.Expr.{Expr}
use Rattle.pt_ast.specs.declared.tree.Cond.{Cond}
use Rattle.pt_parse_expr.specs.declared.alphabet.Mark.TheVariants.{Open, Comma, Plus, Minus, And, Mod, Not, Null, Or}
use Rattle.pt_parse_expr.specs.declared.alphabet.Symbol.{Symbol}
use Rattle.pt_parse_expr.specs.declared.alphabet.Symbol.TheVariants.{Fixed, Word, Quoted, Number, Text, Hex}
use Rattle.pt_parse_expr.specs.Grammar.{Symbols, Terms, Factors, IsExpr, sum, AreTerms, no_term, term, IsTerm, product, AreFactors, no_factor, factor, IsFactor, bare, positive, negative, IsPrimary, number, text, hex, date, null, word, quoted, call, call_mod, parens, AreMore, no_more, more, IsNegation, without, with_not, IsCond, or, AreConjs, no_conj, conj, IsConj, and, AreNegs, no_neg, neg, IsNeg, plain, negated, IsTest, in_parens, compare, is_null, is_in, between}

-- the symbols taken, which a relation has before anything that comes after them
pub record Framed (R : Symbols → Symbols → Type 0) (ts rest : Symbols) : Type 0 where
  pub taken : Symbols
  pub is : ts ≡ taken ++ rest
  pub alone : (after : Symbols) → R (taken ++ after) after

-- ---- steps

-- one and then another
abbrev pub Followed : (Symbols → Symbols → Type 0) → (Symbols → Symbols → Type 0) → Symbols → Symbols → Type 0
Followed R S ts rest = (us : Symbols) × R ts us × S us rest

pub followed : {R S : Symbols → Symbols → Type 0} {ts us rest : Symbols} → Framed R ts us → Framed S us rest → Framed (Followed R S) ts rest
followed {R} {S} {rest = rest} p q = record {
  taken = p.taken ++ q.taken;
  is = p.is ∙ ap (λ vs. p.taken ++ vs) q.is ∙ sym (append_assoc p.taken q.taken rest);
  alone = λ after. subst (λ vs. Followed R S vs after) (sym (append_assoc p.taken q.taken after)) (q.taken ++ after, p.alone (q.taken ++ after), q.alone after);
}

-- behind symbols that a rule begins with
pub begun : {R S : Symbols → Symbols → Type 0} {ts rest : Symbols} (front : Symbols) → Framed R ts rest
    → ((us vs : Symbols) → R us vs → S (front ++ us) vs) → Framed S (front ++ ts) rest
begun {S = S} {rest = rest} front p step = record {
  taken = front ++ p.taken;
  is = ap (λ vs. front ++ vs) p.is ∙ sym (append_assoc front p.taken rest);
  alone = λ after. subst (λ vs. S vs after) (sym (append_assoc front p.taken after)) (step (p.taken ++ after) after (p.alone after));
}

-- before the symbol that a rule ends with
pub ended : {R : Symbols → Symbols → Type 0} {ts rest : Symbols} {s : Symbol} → Framed R ts (s ∷ rest) → Framed (λ us vs. R us (s ∷ vs)) ts rest
ended {R} {rest = rest} {s = s} p = record {
  taken = p.taken ++ s ∷ [];
  is = p.is ∙ sym (append_assoc p.taken (s ∷ []) rest);
  alone = λ after. subst (λ vs. R vs (s ∷ after)) (sym (append_assoc p.taken (s ∷ []) after)) (p.alone (s ∷ after));
}

-- symbols alone
pub only : {R : Symbols → Symbols → Type 0} {rest : Symbols} (front : Symbols) → ((after : Symbols) → R (front ++ after) after) → Framed R (front ++ rest) rest
only front alone = record { taken = front; is = refl; alone = alone }

-- ---- expressions

mutual
  pub expr-framed : {ts rest : Symbols} {x : Expr} → IsExpr ts x rest → Framed (λ us vs. IsExpr us x vs) ts rest
  expr-framed (sum d e) = begun [] (followed (term-framed d) (terms-framed e)) (λ us vs p. sum p.1 p.2)

  terms-framed : {ts rest : Symbols} {ps : Terms} → AreTerms ts ps rest → Framed (λ us vs. AreTerms us ps vs) ts rest
  terms-framed no_term = only [] (λ after. no_term)
  terms-framed (term {s = s} is d e) = begun (s ∷ []) (followed (term-framed d) (terms-framed e)) (λ us vs p. term is p.1 p.2)

  term-framed : {ts rest : Symbols} {x : Expr} → IsTerm ts x rest → Framed (λ us vs. IsTerm us x vs) ts rest
  term-framed (product d e) = begun [] (followed (factor-framed d) (factors-framed e)) (λ us vs p. product p.1 p.2)

  factors-framed : {ts rest : Symbols} {ps : Factors} → AreFactors ts ps rest → Framed (λ us vs. AreFactors us ps vs) ts rest
  factors-framed no_factor = only [] (λ after. no_factor)
  factors-framed (factor {s = s} is d e) = begun (s ∷ []) (followed (factor-framed d) (factors-framed e)) (λ us vs p. factor is p.1 p.2)

  factor-framed : {ts rest : Symbols} {x : Expr} → IsFactor ts x rest → Framed (λ us vs. IsFactor us x vs) ts rest
  factor-framed (bare d) = begun [] (primary-framed d) (λ us vs. bare)
  factor-framed (positive d) = begun (Fixed Plus ∷ []) (primary-framed d) (λ us vs. positive)
  factor-framed (negative d) = begun (Fixed Minus ∷ []) (primary-framed d) (λ us vs. negative)

  primary-framed : {ts rest : Symbols} {x : Expr} → IsPrimary ts x rest → Framed (λ us vs. IsPrimary us x vs) ts rest
  primary-framed (number {n = n}) = only (Number n ∷ []) (λ after. number)
  primary-framed (text {bytes = bytes}) = only (Text bytes ∷ []) (λ after. text)
  primary-framed (hex {bytes = bytes}) = only (Hex bytes ∷ []) (λ after. hex)
  primary-framed (date {name = name} {bytes = bytes} is) = only (Word name ∷ Text bytes ∷ []) (λ after. date is)
  primary-framed null = only (Fixed Null ∷ []) (λ after. null)
  primary-framed (word {name = name}) = only (Word name ∷ []) (λ after. word)
  primary-framed (quoted {name = name}) = only (Quoted name ∷ []) (λ after. quoted)
  primary-framed (call {name = name} is d) = begun (Word name ∷ Fixed Open ∷ []) (ended (expr-framed d)) (λ us vs. call is)
  primary-framed (call_mod d e) =
      begun (Fixed Mod ∷ Fixed Open ∷ []) (followed (ended (expr-framed d)) (ended (expr-framed e))) (λ us vs p. call_mod p.1 p.2)
  primary-framed (parens d) = begun (Fixed Open ∷ []) (ended (expr-framed d)) (λ us vs. parens)

-- ---- conditions

more-framed : {ts rest : Symbols} {xs : List Expr} → AreMore ts xs rest → Framed (λ us vs. AreMore us xs vs) ts rest
more-framed no_more = only [] (λ after. no_more)
more-framed (more d e) = begun (Fixed Comma ∷ []) (followed (expr-framed d) (more-framed e)) (λ us vs p. more p.1 p.2)

not-framed : {ts rest : Symbols} {is_not : Bool} → IsNegation ts is_not rest → Framed (λ us vs. IsNegation us is_not vs) ts rest
not-framed without = only [] (λ after. without)
not-framed with_not = only (Fixed Not ∷ []) (λ after. with_not)

mutual
  pub cond-framed : {ts rest : Symbols} {c : Cond} → IsCond ts c rest → Framed (λ us vs. IsCond us c vs) ts rest
  cond-framed (or d e) = begun [] (followed (conj-framed d) (conjs-framed e)) (λ us vs p. or p.1 p.2)

  conjs-framed : {ts rest : Symbols} {cs : List Cond} → AreConjs ts cs rest → Framed (λ us vs. AreConjs us cs vs) ts rest
  conjs-framed no_conj = only [] (λ after. no_conj)
  conjs-framed (conj d e) = begun (Fixed Or ∷ []) (followed (conj-framed d) (conjs-framed e)) (λ us vs p. conj p.1 p.2)

  conj-framed : {ts rest : Symbols} {c : Cond} → IsConj ts c rest → Framed (λ us vs. IsConj us c vs) ts rest
  conj-framed (and d e) = begun [] (followed (neg-framed d) (negs-framed e)) (λ us vs p. and p.1 p.2)

  negs-framed : {ts rest : Symbols} {cs : List Cond} → AreNegs ts cs rest → Framed (λ us vs. AreNegs us cs vs) ts rest
  negs-framed no_neg = only [] (λ after. no_neg)
  negs-framed (neg d e) = begun (Fixed And ∷ []) (followed (neg-framed d) (negs-framed e)) (λ us vs p. neg p.1 p.2)

  neg-framed : {ts rest : Symbols} {c : Cond} → IsNeg ts c rest → Framed (λ us vs. IsNeg us c vs) ts rest
  neg-framed (plain d) = begun [] (test-framed d) (λ us vs. plain)
  neg-framed (negated d) = begun (Fixed Not ∷ []) (test-framed d) (λ us vs. negated)

  test-framed : {ts rest : Symbols} {c : Cond} → IsTest ts c rest → Framed (λ us vs. IsTest us c vs) ts rest
  test-framed (in_parens d) = begun (Fixed Open ∷ []) (ended (cond-framed d)) (λ us vs. in_parens)
  test-framed (compare d e) = begun [] (followed (ended (expr-framed d)) (expr-framed e)) (λ us vs p. compare p.1 p.2)
  test-framed (is_null d n) = begun [] (followed (ended (expr-framed d)) (ended (not-framed n))) (λ us vs p. is_null p.1 p.2)
  test-framed (is_in d n e m) =
      begun [] (followed (followed (expr-framed d) (ended (ended (not-framed n)))) (followed (expr-framed e) (ended (more-framed m))))
      (λ us vs p. is_in p.1.1 p.1.2 p.2.1 p.2.2)
  test-framed (between d n e f) =
      begun [] (followed (followed (expr-framed d) (ended (not-framed n))) (followed (ended (expr-framed e)) (expr-framed f)))
      (λ us vs p. between p.1.1 p.1.2 p.2.1 p.2.2)
