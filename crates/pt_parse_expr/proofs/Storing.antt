-- What the rules spell of symbols within the limits is storable.
use Rattle.std.proofs.Common.{◌≡◌, ℕ, zero, suc, ◌+◌, ◌*◌, ◌^◌, ◌≤◌, ◌<◌, Bool, false, List, [], ◌∷◌, ◌++◌, length, length-drop, drop, refl, subst, arith}
use Rattle.std.specs.List.{AllByRecursion}
use Rattle.std.proofs.lemmas.List.Elements.{All-drop, All-from_recursion, recursion_from_All}
use Rattle.pt_ast.specs.declared.tree.Op.{Op}
use Rattle.pt_ast.specs.declared.tree.Expr.{Expr}
use Rattle.pt_ast.specs.declared.tree.Cond.{Cond}
use Rattle.pt_ast.specs.Storable.{IsCounted}
use Rattle.pt_ast.specs.StorableExpr.{IsStorableExpr}
use Rattle.pt_ast.specs.StorableCond.{IsStorableCond}
use Rattle.pt_parse_expr.specs.declared.alphabet.Mark.TheVariants.{Open}
use Rattle.pt_parse_expr.specs.declared.alphabet.Symbol.{Symbol}
use Rattle.pt_parse_expr.specs.declared.alphabet.Symbol.TheVariants.{Fixed}
use Rattle.pt_parse_expr.specs.Grammar.{Symbols, Terms, Factors, sum_of, product_of, and_of, or_of, IsSign, IsOp, IsExpr, sum, AreTerms, no_term, term, IsTerm, product, AreFactors, no_factor, factor, IsFactor, bare, positive, negative, IsPrimary, number, text, hex, date, null, word, quoted, call, call_mod, parens, AreMore, no_more, more, IsNegation, without, with_not, IsCond, or, AreConjs, no_conj, conj, IsConj, and, AreNegs, no_neg, neg, IsNeg, plain, negated, IsTest, in_parens, compare, is_null, is_in, between}
use Rattle.pt_parse_expr.specs.Limits.{IsShallow, open_after}
pub use Rattle.pt_parse_expr.specs.Limits.{IsStorableSymbol, AreStorableSymbols}
use Rattle.pt_parse_expr.proofs.Eats.{Eats, IsPlain, one, sign-eats, op-eats, term-eats, factor-eats, expr-eats, conj-eats, neg-eats, cond-eats}
use Rattle.pt_parse_expr.proofs.Frame.{expr-framed, cond-framed}
use Rattle.pt_parse_expr.proofs.Room.{Room, room-after}
use Rattle.pt_parse_expr.proofs.ExprNodes.{Fits, AllFit, deeper, number-fits, text-fits, hex-fits, date-fits, null-fits, column-fits, neg-fits, call-fits, sum-fits, product-fits}
use Rattle.pt_parse_expr.proofs.CondNodes.{AreStorableConds, or-storable, and-storable, not-storable, compare-storable, null-storable, in-storable, between-storable}

-- fewer than 2^32 symbols that are storable, and that open so many parentheses more, 64 at most
pub record Within (room : ℕ) (ts : Symbols) : Type 0 where
  pub low : room ≤ 64
  pub nests : Room room ts
  pub counted : IsCounted ts
  pub each : AllByRecursion (λ s. IsStorableSymbol s) ts

all-behind : (taken rest : Symbols) → AllByRecursion (λ s. IsStorableSymbol s) (taken ++ rest) → AllByRecursion (λ s. IsStorableSymbol s) rest
all-behind [] rest all = all
all-behind (s ∷ taken) rest all = all-behind taken rest all.1

behind : {room : ℕ} {ts rest : Symbols} → Eats ts rest → (taken : Symbols) → ts ≡ taken ++ rest → Within room ts → Within room rest
behind {room} {ts} {rest} e taken is w = record {
  low = w.low;
  nests = room-after e w.nests;
  counted = omega (arith, e.shorter, w.counted);
  each = all-behind taken rest (subst (λ us. AllByRecursion (λ s. IsStorableSymbol s) us) is w.each);
}

pub after-expr : {room : ℕ} {ts rest : Symbols} {x : Expr} → IsExpr ts x rest → Within room ts → Within room rest
after-expr d w = let f = expr-framed d in behind (expr-eats d) f.taken f.is w

pub after-cond : {room : ℕ} {ts rest : Symbols} {c : Cond} → IsCond ts c rest → Within room ts → Within room rest
after-cond d w = let f = cond-framed d in behind (cond-eats d) f.taken f.is w

-- behind a symbol that is no parenthesis
pub next : {room : ℕ} {s : Symbol} {ts : Symbols} → IsPlain s → Within room (s ∷ ts) → Within room ts
next {s = s} same w = behind (one same) (s ∷ []) refl w

-- in parentheses
pub opened : {room : ℕ} {ts : Symbols} → Within room (Fixed Open ∷ ts) → (inner : ℕ) × (inner < room) × Within inner ts
opened {room = zero} w = absurd (omega (arith, w.nests.enough, w.nests.shallow.0))
opened {room = suc room} w = (
  room,
  omega arith,
  record {
    low = omega (arith, w.low);
    nests = record { most = w.nests.most; height = suc w.nests.height; enough = omega (arith, w.nests.enough); shallow = w.nests.shallow.1 };
    counted = omega (arith, w.counted);
    each = w.each.1;
  },
)

-- ---- expressions

-- one part alone makes no node
sum_of-fits : (most : ℕ) (x : Expr) (ps : Terms) → Fits most x → AllFit most ps → suc (length ps) < 2 ^ 32 → Fits (suc most) (sum_of x ps)
sum_of-fits most x [] f all few = deeper (omega arith) f
sum_of-fits most x (p ∷ ps) f all few = sum-fits ((false, x) ∷ p ∷ ps) ((omega arith, omega (arith, few)), refl) (f, all)

product_of-fits : (most : ℕ) (x : Expr) (ps : Factors) → Fits most x → AllFit most ps → length ps < 2 ^ 32 → Fits (suc most) (product_of x ps)
product_of-fits most x [] f all few = deeper (omega arith) f
product_of-fits most x (p ∷ ps) f all few = product-fits (p ∷ ps) (omega arith, few) f all

-- no more parts than symbols
terms-counted : {ts rest : Symbols} {ps : Terms} → AreTerms ts ps rest → length ps ≤ length ts
terms-counted no_term = omega arith
terms-counted (term s t ts) = omega (arith, (term-eats t).shorter, terms-counted ts)

factors-counted : {ts rest : Symbols} {ps : Factors} → AreFactors ts ps rest → length ps ≤ length ts
factors-counted no_factor = omega arith
factors-counted (factor o f fs) = omega (arith, (factor-eats f).shorter, factors-counted fs)

after-sign : {room : ℕ} {s : Symbol} {is_minus : Bool} {ts : Symbols} → IsSign s is_minus → Within room (s ∷ ts) → Within room ts
after-sign {s = s} is w = behind (sign-eats is) (s ∷ []) refl w

after-op : {room : ℕ} {s : Symbol} {o : Op} {ts : Symbols} → IsOp s o → Within room (s ∷ ts) → Within room ts
after-op {s = s} is w = behind (op-eats is) (s ∷ []) refl w

after-term : {room : ℕ} {ts rest : Symbols} {x : Expr} → IsTerm ts x rest → Within room ts → Within room rest
after-term t w = after-expr (sum t no_term) w

after-factor : {room : ℕ} {ts rest : Symbols} {x : Expr} → IsFactor ts x rest → Within room ts → Within room rest
after-factor f w = after-term (product f no_factor) w

-- Each level of parentheses has four nodes at most: a sum of products of negations of calls.
mutual
  pub expr-fits : (room : ℕ) {ts rest : Symbols} {x : Expr} → IsExpr ts x rest → Within room ts → Fits (4 * room + 4) x
  expr-fits room (sum {x = x} {ps = ps} t ts) w =
      deeper (omega arith) (sum_of-fits (4 * room + 3) x ps (term-fits room t w) (terms-fit room ts (after-term t w))
      (omega (arith, (term-eats t).shorter, terms-counted ts, w.counted)))

  terms-fit : (room : ℕ) {ts rest : Symbols} {ps : Terms} → AreTerms ts ps rest → Within room ts → AllFit (4 * room + 3) ps
  terms-fit room no_term w = tt
  terms-fit room (term s t ts) w = (term-fits room t (after-sign s w), terms-fit room ts (after-term t (after-sign s w)))

  term-fits : (room : ℕ) {ts rest : Symbols} {x : Expr} → IsTerm ts x rest → Within room ts → Fits (4 * room + 3) x
  term-fits room (product {x = x} {ps = ps} f fs) w =
      deeper (omega arith) (product_of-fits (4 * room + 2) x ps (factor-fits room f w) (factors-fit room fs (after-factor f w))
      (omega (arith, (factor-eats f).shorter, factors-counted fs, w.counted)))

  factors-fit : (room : ℕ) {ts rest : Symbols} {ps : Factors} → AreFactors ts ps rest → Within room ts → AllFit (4 * room + 2) ps
  factors-fit room no_factor w = tt
  factors-fit room (factor o f fs) w = (factor-fits room f (after-op o w), factors-fit room fs (after-factor f (after-op o w)))

  factor-fits : (room : ℕ) {ts rest : Symbols} {x : Expr} → IsFactor ts x rest → Within room ts → Fits (4 * room + 2) x
  factor-fits room (bare p) w = deeper (omega arith) (primary-fits room p w)
  factor-fits room (positive p) w = deeper (omega arith) (primary-fits room p (next (λ h. refl) w))
  factor-fits room (negative p) w = deeper (omega arith) (neg-fits (primary-fits room p (next (λ h. refl) w)))

  primary-fits : (room : ℕ) {ts rest : Symbols} {x : Expr} → IsPrimary ts x rest → Within room ts → Fits (4 * room + 1) x
  primary-fits room number w = deeper (omega arith) (number-fits w.each.0)
  primary-fits room text w = deeper (omega arith) (text-fits w.each.0)
  primary-fits room hex w = deeper (omega arith) (hex-fits w.each.0)
  primary-fits room (date is) w = deeper (omega arith) date-fits
  primary-fits room null w = deeper (omega arith) null-fits
  primary-fits room word w = deeper (omega arith) column-fits
  primary-fits room quoted w = deeper (omega arith) column-fits
  primary-fits room (call is d) w =
      let inner = opened (next (λ h. refl) w) in
      deeper (omega (arith, inner.1)) (call-fits (expr-fits inner.0 d inner.2))
  primary-fits room (call_mod d e) w =
      let inner = opened (next (λ h. refl) w) in
      deeper (omega (arith, inner.1))
      (product-fits _ (omega arith, omega arith) (expr-fits inner.0 d inner.2) (expr-fits inner.0 e (next (λ h. refl) (after-expr d inner.2)), tt))
  primary-fits room (parens d) w =
      let inner = opened w in
      deeper (omega (arith, inner.1)) (expr-fits inner.0 d inner.2)

pub expr-within : {room : ℕ} {ts rest : Symbols} {x : Expr} → IsExpr ts x rest → Within room ts → IsStorableExpr x
expr-within {room} d w = let f = expr-fits room d w in record { nodes = f.nodes; depth = omega (arith, f.shallow, w.low) }

-- ---- conditions

mores-counted : {ts rest : Symbols} {xs : List Expr} → AreMore ts xs rest → length xs ≤ length ts
mores-counted no_more = omega arith
mores-counted (more d es) = omega (arith, (expr-eats d).shorter, mores-counted es)

mores-within : {room : ℕ} {ts rest : Symbols} {xs : List Expr} → AreMore ts xs rest → Within room ts → AllByRecursion (λ x. IsStorableExpr x) xs
mores-within no_more w = tt
mores-within (more d es) w = let v = next (λ h. refl) w in (expr-within d v, mores-within es (after-expr d v))

after-not : {room : ℕ} {ts rest : Symbols} {is_not : Bool} → IsNegation ts is_not rest → Within room ts → Within room rest
after-not without w = w
after-not with_not w = next (λ h. refl) w

or_of-storable : (c : Cond) (cs : List Cond) → IsStorableCond c → AreStorableConds cs → suc (length cs) < 2 ^ 32 → IsStorableCond (or_of c cs)
or_of-storable c [] is all few = is
or_of-storable c (d ∷ ds) is all few = or-storable (c ∷ d ∷ ds) (omega arith, few) (is, all)

and_of-storable : (c : Cond) (cs : List Cond) → IsStorableCond c → AreStorableConds cs → suc (length cs) < 2 ^ 32 → IsStorableCond (and_of c cs)
and_of-storable c [] is all few = is
and_of-storable c (d ∷ ds) is all few = and-storable (c ∷ d ∷ ds) (omega arith, few) (is, all)

conjs-counted : {ts rest : Symbols} {cs : List Cond} → AreConjs ts cs rest → length cs ≤ length ts
conjs-counted no_conj = omega arith
conjs-counted (conj c cs) = omega (arith, (conj-eats c).shorter, conjs-counted cs)

negs-counted : {ts rest : Symbols} {cs : List Cond} → AreNegs ts cs rest → length cs ≤ length ts
negs-counted no_neg = omega arith
negs-counted (neg c cs) = omega (arith, (neg-eats c).shorter, negs-counted cs)

after-conj : {room : ℕ} {ts rest : Symbols} {c : Cond} → IsConj ts c rest → Within room ts → Within room rest
after-conj c w = after-cond (or c no_conj) w

after-neg : {room : ℕ} {ts rest : Symbols} {c : Cond} → IsNeg ts c rest → Within room ts → Within room rest
after-neg c w = after-conj (and c no_neg) w

mutual
  pub cond-within : {room : ℕ} {ts rest : Symbols} {c : Cond} → IsCond ts c rest → Within room ts → IsStorableCond c
  cond-within (or {c = c} {cs = cs} d ds) w =
      or_of-storable c cs (conj-within d w) (conjs-within ds (after-conj d w)) (omega (arith, (conj-eats d).shorter, conjs-counted ds, w.counted))

  conjs-within : {room : ℕ} {ts rest : Symbols} {cs : List Cond} → AreConjs ts cs rest → Within room ts → AreStorableConds cs
  conjs-within no_conj w = tt
  conjs-within (conj d ds) w = let v = next (λ h. refl) w in (conj-within d v, conjs-within ds (after-conj d v))

  conj-within : {room : ℕ} {ts rest : Symbols} {c : Cond} → IsConj ts c rest → Within room ts → IsStorableCond c
  conj-within (and {c = c} {cs = cs} d ds) w =
      and_of-storable c cs (neg-within d w) (negs-within ds (after-neg d w)) (omega (arith, (neg-eats d).shorter, negs-counted ds, w.counted))

  negs-within : {room : ℕ} {ts rest : Symbols} {cs : List Cond} → AreNegs ts cs rest → Within room ts → AreStorableConds cs
  negs-within no_neg w = tt
  negs-within (neg d ds) w = let v = next (λ h. refl) w in (neg-within d v, negs-within ds (after-neg d v))

  neg-within : {room : ℕ} {ts rest : Symbols} {c : Cond} → IsNeg ts c rest → Within room ts → IsStorableCond c
  neg-within (plain d) w = test-within d w
  neg-within (negated d) w = not-storable _ (test-within d (next (λ h. refl) w))

  test-within : {room : ℕ} {ts rest : Symbols} {c : Cond} → IsTest ts c rest → Within room ts → IsStorableCond c
  test-within (in_parens d) w = let inner = opened w in cond-within d inner.2
  test-within (compare d e) w = compare-storable _ _ _ (expr-within d w) (expr-within e (next (λ h. refl) (after-expr d w)))
  test-within (is_null d n) w = null-storable _ _ (expr-within d w)
  test-within (is_in {y = y} {ys = ys} d n e es) w =
      let v = opened (next (λ h. refl) (after-not n (after-expr d w))) in
      in-storable _ _ (y ∷ ys) (omega arith, omega (arith, (expr-eats e).shorter, mores-counted es, v.2.counted)) (expr-within d w)
      (All-from_recursion (λ x. IsStorableExpr x) (y ∷ ys) (expr-within e v.2, mores-within es (after-expr e v.2)))
  test-within (between d n e f) w =
      let v = next (λ h. refl) (after-not n (after-expr d w)) in
      between-storable _ _ _ _ (expr-within d w) (expr-within e v) (expr-within f (next (λ h. refl) (after-expr e v)))

-- ---- where the symbols are within the limits

pub within : {ts : Symbols} (room most height : ℕ) → room ≤ 64 → most ≤ height + room → IsShallow most height ts → length ts < 2 ^ 32 → AreStorableSymbols ts
    → Within room ts
within {ts} room most height low enough shallow few all = record {
  low = low;
  nests = record { most = most; height = height; enough = enough; shallow = shallow };
  counted = few;
  each = recursion_from_All (λ s. IsStorableSymbol s) ts all;
}

shallow-drop : (n : ℕ) (ts : Symbols) (most height : ℕ) → IsShallow most height ts → (now : ℕ) × IsShallow most now (drop n ts)
shallow-drop zero ts most height shallow = (height, shallow)
shallow-drop (suc n) [] most height shallow = (height, tt)
shallow-drop (suc n) (s ∷ ts) most height shallow = shallow-drop n ts most (open_after s height) shallow.1

-- from a place on
pub within-drop : (n : ℕ) (ts : Symbols) → IsShallow 64 0 ts → length ts < 2 ^ 32 → AreStorableSymbols ts → Within 64 (drop n ts)
within-drop n ts shallow few all =
    let now = shallow-drop n ts 64 0 shallow in
    within 64 64 now.0 (omega arith) (omega arith) now.1 (omega (arith, length-drop n ts, few)) (All-drop (λ s. IsStorableSymbol s) n ts all)

pub expr-storable : {ts rest : Symbols} {x : Expr} → IsExpr ts x rest → IsShallow 64 0 ts → length ts < 2 ^ 32 → AreStorableSymbols ts → IsStorableExpr x
expr-storable d shallow few all = expr-within d (within 64 64 0 (omega arith) (omega arith) shallow few all)

pub cond-storable : {ts rest : Symbols} {c : Cond} → IsCond ts c rest → IsShallow 64 0 ts → length ts < 2 ^ 32 → AreStorableSymbols ts → IsStorableCond c
cond-storable d shallow few all = cond-within d (within 64 64 0 (omega arith) (omega arith) shallow few all)
