-- What the rules say is read, where the depth is enough for the parentheses.
use Rattle.std.proofs.Common.{◌≡◌, ℕ, zero, suc, ◌+◌, ◌≤◌, Bool, false, List, [], ◌∷◌, Some, None, refl, sym, ap, subst, ◌∙◌, arith}
use Rattle.pt_ast.specs.declared.tree.Op.TheVariants as op
use Rattle.pt_ast.specs.declared.tree.Expr.{Expr}
use Rattle.pt_ast.specs.declared.tree.Expr.TheVariants as tree
use Rattle.pt_ast.specs.declared.tree.Cond.{Cond}
use Rattle.pt_parse_expr.specs.declared.alphabet.Mark.TheVariants.{Open, Close, Compare, And, Between, In, Is, Null}
use Rattle.pt_parse_expr.specs.declared.alphabet.Symbol.TheVariants.{Fixed}
use Rattle.pt_parse_expr.specs.declared.found.Found.TheVariants.{Value}
use Rattle.pt_parse_expr.specs.declared.found.Behind.TheVariants as behind
use Rattle.pt_parse_expr.specs.Grammar.{Symbols, Terms, Factors, sum_of, product_of, and_of, or_of, IsSign, IsOp, IsExpr, AreTerms, IsTerm, AreFactors, IsFactor, IsPrimary, AreMore, IsNegation, IsCond, AreConjs, IsConj, AreNegs, IsNeg, IsTest}
use Rattle.pt_parse_expr.specs.Grammar as rule
use Rattle.pt_parse_expr.specs.Limits.{IsShallow}
use Rattle.pt_parse_expr.specs.Reader.{Reading, mapped, or_else, closed, as_expr, as_cond, after_is, dated, value, call_by, after_word, divided_by, after_mod, primary, factor, next_factor, term, next_term, sum, next_more, member, from_low, range, among, behind_expr, tested, negation, next_negation, conjunction, next_conjunction, either, found}
use Rattle.pt_parse_expr.proofs.Sound.{found-sound}
use Rattle.pt_parse_expr.proofs.Eats.{◌▸◌, ◌▸*◌, negation-keeps, one, expr-eats, term-eats, factor-eats, conj-eats, neg-eats, sign-eats, op-eats}
use Rattle.pt_parse_expr.proofs.Covers.{Covers, covers-exact, covers-mapped, exactly, with_many, continues-none, continues-more}
use Rattle.pt_parse_expr.proofs.Levels.{opens, term_on, sum_on, more_on, conj_on, cond_on, ends-left, no_factor_more, no_term_more, no_expr_more, no_negation_more, no_conjunction_more, sign-ends, op-ends, sign-reads, op-reads}
use Rattle.pt_parse_expr.proofs.Room.{Room, room-after, room-opened, Inside, inside-opened, inside-after}
use Rattle.pt_parse_expr.proofs.Ways.{value-shrinks, product_after-is, sum_after-is, and_after-is, or_after-is, in_list, listed-is, factor-bare, negation-plain, word-covers, either-by_sum, opened-test, test-covers, negated-covers, mapped-same}

-- ---- what stands in parentheses

-- an expression there, before a symbol that ends it
found-value : {ts rest : Symbols} {x : Expr} → ((depth : ℕ) → Room depth ts → Covers sum_on (sum (found depth) ts) x rest)
    → sum_on rest ≡ false → ((depth : ℕ) → behind_expr (found depth) rest ≡ None) → (depth : ℕ) → Inside depth ts → found depth ts ≡ Some (Value x, rest)
unfolding found
found-value read ends none zero i = absurd i
found-value {ts} {rest} {x} read ends none (suc depth) i = either-by_sum (found depth) ts x rest (covers-exact (read depth i) ends) (none depth)

value-is : {ts rest : Symbols} {x : Expr} → ((depth : ℕ) → Room depth ts → Covers sum_on (sum (found depth) ts) x (Fixed Close ∷ rest))
    → (depth : ℕ) → Inside depth ts → value (found depth) ts ≡ Some (x, rest)
unfolding value behind_expr among
value-is read depth i = ap (λ r. as_expr (closed r)) (found-value read refl (λ depth. refl) depth i)

found-cond : {ts rest : Symbols} {c : Cond} → ((depth : ℕ) → Room depth ts → Covers cond_on (as_cond (either (found depth) ts)) c rest)
    → cond_on rest ≡ false → (depth : ℕ) → Inside depth ts → as_cond (found depth ts) ≡ Some (c, rest)
unfolding found
found-cond read ends zero i = absurd i
found-cond read ends (suc depth) i = covers-exact (read depth i) ends

-- ---- expressions

mutual
  unfolding sum term factor primary after_word after_mod behind_expr among

  pub expr-covered : {ts rest : Symbols} {x : Expr} → IsExpr ts x rest → (depth : ℕ) → Room depth ts
      → Covers sum_on (sum (found depth) ts) x rest
  expr-covered (rule.sum {ts} {us} {rest} {x} {ps} t more) depth room =
      subst (λ r. Covers sum_on r (sum_of x ps) rest) (sum_after-is (found depth) (term (found depth) ts))
      (terms-covered more depth (room-after (term-eats t) room) sum_of (term-covered t depth room))

  pub terms-covered : {ts rest : Symbols} {ps : Terms} → AreTerms ts ps rest → (depth : ℕ) → Room depth ts
      → (f : Expr → Terms → Expr) {r : Reading Expr} {x : Expr}
      → Covers term_on r x ts → Covers sum_on (with_many f (next_term (found depth)) r) (f x ps) rest
  terms-covered (rule.no_term {ts}) depth room f c = continues-none f (next_term (found depth)) (ends-left _ _) (no_term_more (found depth) ts) c
  terms-covered (rule.term {ts} {is_minus} s t more) depth room f {x} c =
      let room = room-after (sign-eats s) room in
      let next = term-covered t depth room in
      let e = term-eats t in
      continues-more f (next_term (found depth)) (λ y. (is_minus, y)) c (sign-ends ts s) (sign-reads (found depth) ts s) next (omega (arith, e.shorter))
      (terms-covered more depth (room-after e room) (λ y ys. f x ((is_minus, y) ∷ ys)) next)

  pub term-covered : {ts rest : Symbols} {x : Expr} → IsTerm ts x rest → (depth : ℕ) → Room depth ts
      → Covers term_on (term (found depth) ts) x rest
  term-covered (rule.product {ts} {us} {rest} {x} {ps} t more) depth room =
      subst (λ r. Covers term_on r (product_of x ps) rest) (product_after-is (found depth) (factor (found depth) ts))
      (factors-covered more depth (room-after (factor-eats t) room) product_of (factor-covered t depth room))

  pub factors-covered : {ts rest : Symbols} {ps : Factors} → AreFactors ts ps rest → (depth : ℕ) → Room depth ts
      → (f : Expr → Factors → Expr) {r : Reading Expr} {x : Expr}
      → Covers opens r x ts → Covers term_on (with_many f (next_factor (found depth)) r) (f x ps) rest
  factors-covered (rule.no_factor {ts}) depth room f c = continues-none f (next_factor (found depth)) (ends-left _ _) (no_factor_more (found depth) ts) c
  factors-covered (rule.factor {ts} {o} s t more) depth room f {x} c =
      let room = room-after (op-eats s) room in
      let next = factor-covered t depth room in
      let e = factor-eats t in
      continues-more f (next_factor (found depth)) (λ y. (o, y)) c (op-ends ts s) (op-reads (found depth) ts s) next (omega (arith, e.shorter))
      (factors-covered more depth (room-after e room) (λ y ys. f x ((o, y) ∷ ys)) next)

  pub factor-covered : {ts rest : Symbols} {x : Expr} → IsFactor ts x rest → (depth : ℕ) → Room depth ts
      → Covers opens (factor (found depth) ts) x rest
  factor-covered (rule.bare {ts} p) depth room = factor-bare (found depth) ts (primary-covered p depth room)
  factor-covered (rule.positive p) depth room = primary-covered p depth (room-after (one (λ h. refl)) room)
  factor-covered (rule.negative p) depth room = covers-mapped tree.Neg (primary-covered p depth (room-after (one (λ h. refl)) room))

  pub primary-covered : {ts rest : Symbols} {x : Expr} → IsPrimary ts x rest → (depth : ℕ) → Room depth ts
      → Covers opens (primary (found depth) ts) x rest
  primary-covered rule.number depth room = exactly refl
  primary-covered rule.text depth room = exactly refl
  primary-covered rule.hex depth room = exactly refl
  primary-covered (rule.date {rest} {name} {bytes} is) depth room = exactly (ap (λ b. dated b name bytes rest) is)
  primary-covered rule.null depth room = exactly refl
  primary-covered (rule.word {rest} {name}) depth room = word-covers (found depth) name rest (λ ts. value-shrinks (found depth) ts (found-sound depth ts))
  primary-covered rule.quoted depth room = exactly refl
  primary-covered (rule.call {ts} {name} {f} is e) depth room =
      let i = inside-opened depth (room-after (one (λ h. refl)) room) in
      exactly (ap (λ o. call_by (found depth) o name ts) is
      ∙ ap (λ r. or_else (mapped (tree.Call f) r) (Some (tree.Column name, Fixed Open ∷ ts))) (value-is (λ d r. expr-covered e d r) depth i))
  primary-covered (rule.call_mod {ts} {us} {rest} {x} {y} e f) depth room =
      let i = inside-opened depth (room-after (one (λ h. refl)) room) in
      exactly (ap (λ r. divided_by (found depth) (as_expr r)) (found-value (λ d r. expr-covered e d r) refl (λ d. refl) depth i)
      ∙ ap (mapped (λ y. tree.Product x ((op.Mod, y) ∷ []))) (value-is (λ d r. expr-covered f d r) depth (inside-after depth (expr-eats e ▸ one (λ h. refl)) i)))
  primary-covered (rule.parens e) depth room = exactly (value-is (λ d r. expr-covered e d r) depth (inside-opened depth room))

-- ---- behind an expression

pub more-covered : {ts rest : Symbols} {xs : List Expr} → AreMore ts xs rest → (depth : ℕ) → Room depth ts
    → (f : Expr → List Expr → Expr × List Expr) {r : Reading Expr} {x : Expr}
    → Covers sum_on r x ts → Covers more_on (with_many f (next_more (found depth)) r) (f x xs) rest
unfolding next_more
more-covered (rule.no_more {ts}) depth room f c = continues-none f (next_more (found depth)) (ends-left _ _) (no_expr_more (found depth) ts) c
more-covered (rule.more {ts} e es) depth room f {x} c =
    let room = room-after (one (λ h. refl)) room in
    let next = expr-covered e depth room in
    let eats = expr-eats e in
    continues-more f (next_more (found depth)) (λ y. y) c refl (mapped-same (sum (found depth) ts)) next (omega (arith, eats.shorter))
    (more-covered es depth (room-after eats room) (λ y ys. f x (y ∷ ys)) next)

null-read : {us rest : Symbols} {is_not : Bool} → IsNegation us is_not (Fixed Null ∷ rest) → after_is us ≡ Some (behind.IsNull is_not, rest)
unfolding after_is
null-read rule.without = refl
null-read rule.with_not = refl

in-read : {us vs : Symbols} {is_not : Bool} (depth : ℕ) → IsNegation us is_not (Fixed In ∷ vs)
    → (behind_expr (found depth) us ≡ member (found depth) is_not vs) × (sum_on us ≡ false)
unfolding behind_expr among
in-read depth rule.without = (refl, refl)
in-read depth rule.with_not = (refl, refl)

between-read : {us vs : Symbols} {is_not : Bool} (depth : ℕ) → IsNegation us is_not (Fixed Between ∷ vs)
    → (behind_expr (found depth) us ≡ range (found depth) is_not vs) × (sum_on us ≡ false)
unfolding behind_expr among
between-read depth rule.without = (refl, refl)
between-read depth rule.with_not = (refl, refl)

member-read : {ts ws rest : Symbols} {x : Expr} {xs : List Expr} → IsExpr ts x ws → AreMore ws xs (Fixed Close ∷ rest)
    → (depth : ℕ) → Room depth ts → (is_not : Bool)
    → member (found depth) is_not (Fixed Open ∷ ts) ≡ Some (behind.In is_not (x ∷ xs), rest)
unfolding member
member-read {ts} {rest} {x} {xs} e es depth room is_not =
    listed-is (found depth) is_not (sum (found depth) ts) x xs rest
    (covers-exact (more-covered es depth (room-after (expr-eats e) room) in_list (expr-covered e depth room)) refl)

pub range-covered : {ts ws rest : Symbols} {low high : Expr} → IsExpr ts low (Fixed And ∷ ws) → IsExpr ws high rest → (depth : ℕ)
    → Room depth ts → (is_not : Bool)
    → Covers sum_on (range (found depth) is_not ts) (behind.Between is_not low high) rest
unfolding range
range-covered {rest} {low} {high} e f depth room is_not =
    subst (λ r. Covers sum_on r (behind.Between is_not low high) rest) (sym (ap (from_low (found depth) is_not) (covers-exact (expr-covered e depth room) refl)))
    (covers-mapped (behind.Between is_not low) (expr-covered f depth (room-after (expr-eats e ▸ one (λ h. refl)) room)))

-- ---- conditions

mutual
  unfolding either conjunction negation tested behind_expr next_negation next_conjunction

  pub cond-covered : {ts rest : Symbols} {c : Cond} → IsCond ts c rest → (depth : ℕ) → Room depth ts
      → Covers cond_on (as_cond (either (found depth) ts)) c rest
  cond-covered (rule.or {ts} {us} {rest} {c} {cs} d more) depth room =
      subst (λ r. Covers cond_on r (or_of c cs) rest) (or_after-is (found depth) (conjunction (found depth) ts))
      (conjs-covered more depth (room-after (conj-eats d) room) or_of (conj-covered d depth room))

  pub conjs-covered : {ts rest : Symbols} {cs : List Cond} → AreConjs ts cs rest → (depth : ℕ) → Room depth ts
      → (f : Cond → List Cond → Cond) {r : Reading Cond} {c : Cond}
      → Covers conj_on r c ts → Covers cond_on (with_many f (next_conjunction (found depth)) r) (f c cs) rest
  conjs-covered (rule.no_conj {ts}) depth room f c = continues-none f (next_conjunction (found depth)) (ends-left _ _) (no_conjunction_more (found depth) ts) c
  conjs-covered (rule.conj {ts} d more) depth room f {c = x} c =
      let room = room-after (one (λ h. refl)) room in
      let next = conj-covered d depth room in
      let eats = conj-eats d in
      continues-more f (next_conjunction (found depth)) (λ y. y) c refl (mapped-same (as_cond (conjunction (found depth) ts))) next (omega (arith, eats.shorter))
      (conjs-covered more depth (room-after eats room) (λ y ys. f x (y ∷ ys)) next)

  pub conj-covered : {ts rest : Symbols} {c : Cond} → IsConj ts c rest → (depth : ℕ) → Room depth ts
      → Covers conj_on (as_cond (conjunction (found depth) ts)) c rest
  conj-covered (rule.and {ts} {us} {rest} {c} {cs} d more) depth room =
      subst (λ r. Covers conj_on r (and_of c cs) rest) (and_after-is (found depth) (negation (found depth) ts))
      (negs-covered more depth (room-after (neg-eats d) room) and_of (neg-covered d depth room))

  pub negs-covered : {ts rest : Symbols} {cs : List Cond} → AreNegs ts cs rest → (depth : ℕ) → Room depth ts
      → (f : Cond → List Cond → Cond) {r : Reading Cond} {c : Cond}
      → Covers sum_on r c ts → Covers conj_on (with_many f (next_negation (found depth)) r) (f c cs) rest
  negs-covered (rule.no_neg {ts}) depth room f c = continues-none f (next_negation (found depth)) (ends-left _ _) (no_negation_more (found depth) ts) c
  negs-covered (rule.neg {ts} d more) depth room f {c = x} c =
      let room = room-after (one (λ h. refl)) room in
      let next = neg-covered d depth room in
      let eats = neg-eats d in
      continues-more f (next_negation (found depth)) (λ y. y) c refl (mapped-same (as_cond (negation (found depth) ts))) next (omega (arith, eats.shorter))
      (negs-covered more depth (room-after eats room) (λ y ys. f x (y ∷ ys)) next)

  pub neg-covered : {ts rest : Symbols} {c : Cond} → IsNeg ts c rest → (depth : ℕ) → Room depth ts
      → Covers sum_on (as_cond (negation (found depth) ts)) c rest
  neg-covered (rule.plain {ts} d) depth room = negation-plain (found depth) ts (test-covered d depth room)
  neg-covered (rule.negated d) depth room = negated-covers (test-covered d depth (room-after (one (λ h. refl)) room))

  pub test-covered : {ts rest : Symbols} {c : Cond} → IsTest ts c rest → (depth : ℕ) → Room depth ts
      → Covers sum_on (as_cond (tested (found depth) ts)) c rest
  test-covered (rule.in_parens {ts} {rest} {c} d) depth room =
      exactly (opened-test (found depth) (found depth ts) c rest (found-cond (λ n r. cond-covered d n r) refl depth (inside-opened depth room)))
  test-covered (rule.compare {ts} {us} {rest} {m} {x} {y} e f) depth room =
      test-covers (found depth) ts x (Fixed (Compare m) ∷ us) (covers-exact (expr-covered e depth room) refl)
      (covers-mapped (behind.Compare m) (expr-covered f depth (room-after (expr-eats e ▸ one (λ h. refl)) room)))
  test-covered (rule.is_null {ts} {us} {rest} {x} {is_not} e n) depth room =
      test-covers (found depth) ts x (Fixed Is ∷ us) (covers-exact (expr-covered e depth room) refl) (exactly (null-read n))
  test-covered (rule.is_in {ts} {us} {x = x} {is_not = is_not} e n f fs) depth room =
      let b = in-read depth n in
      test-covers (found depth) ts x us (covers-exact (expr-covered e depth room) b.1)
      (exactly (b.0 ∙ member-read f fs depth (room-opened (room-after (expr-eats e ▸* negation-keeps n ▸ one (λ h. refl)) room)) is_not))
  test-covered (rule.between {ts} {us} {vs} {ws} {rest} {x} {low} {high} {is_not} e n f g) depth room =
      let b = between-read depth n in
      test-covers (found depth) ts x us (covers-exact (expr-covered e depth room) b.1)
      (subst (λ r. Covers sum_on r (behind.Between is_not low high) rest) (sym b.0)
      (range-covered f g depth (room-after (expr-eats e ▸* negation-keeps n ▸ one (λ h. refl)) room) is_not))

-- ---- where at most so many parentheses are open at once

pub expr-covers : {ts rest : Symbols} {x : Expr} → IsExpr ts x rest → (depth most height : ℕ) → most ≤ height + depth
    → IsShallow most height ts
    → Covers sum_on (sum (found depth) ts) x rest
expr-covers d depth most height enough shallow = expr-covered d depth (record { most = most; height = height; enough = enough; shallow = shallow })

pub cond-covers : {ts rest : Symbols} {c : Cond} → IsCond ts c rest → (depth most height : ℕ) → most ≤ height + depth
    → IsShallow most height ts
    → Covers cond_on (as_cond (either (found depth) ts)) c rest
cond-covers d depth most height enough shallow = cond-covered d depth (record { most = most; height = height; enough = enough; shallow = shallow })
