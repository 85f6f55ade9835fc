-- Reading as many as there are. An item that takes no symbol ends the list, so the equation of `many` holds of every item.
use Rattle.std.proofs.Common.{◌≡◌, ℕ, zero, suc, ◌<◌, ◌≤◌, Bool, true, false, nat_lt, cond, List, [], ◌∷◌, ◌++◌, length, drop, Some, None, refl, ap, ◌∙◌, sym, arith, length-drop, append_assoc, append-nil, lt-ltb, le-ltb, ltb-true}
use Rattle.pt_parse_expr.specs.Grammar.{Symbols}
use Rattle.pt_parse_expr.specs.Reader.{Reading, Reader, before, go_on, many_in, many}

-- ---- one step

go_on-same : {A : Type 0} (r : Reading A) (again other : Symbols → List A × Symbols) (ts : Symbols)
    → ((us : Symbols) → length us < length ts → again us ≡ other us) → go_on r again ts ≡ go_on r other ts
go_on-same None again other ts same = refl
go_on-same (Some p) again other ts same = by_test (nat_lt (length p.1) (length ts)) refl where
  by_test : (b : Bool) → nat_lt (length p.1) (length ts) ≡ b → cond b (before p.0 (again p.1)) ([], ts) ≡ cond b (before p.0 (other p.1)) ([], ts)
  by_test true shorter = ap (before p.0) (same p.1 (ltb-true (length p.1) (length ts) shorter))
  by_test false _ = refl

go_on-ends : {A : Type 0} (r : Reading A) (again : Symbols → List A × Symbols) (ts : Symbols) → length ts ≤ 0 → go_on r again ts ≡ ([], ts)
go_on-ends None again ts empty = refl
go_on-ends (Some p) again ts empty = ap (λ b. cond b (before p.0 (again p.1)) ([], ts)) (le-ltb (length p.1) (length ts) (omega arith))

pub go_on-more : {A : Type 0} (x : A) (us : Symbols) (again : Symbols → List A × Symbols) (ts : Symbols)
    → length us < length ts → go_on (Some (x, us)) again ts ≡ before x (again us)
go_on-more x us again ts shorter = ap (λ b. cond b (before x (again us)) ([], ts)) (lt-ltb (length us) (length ts) shorter)

-- what an item adds in front of a list that the relation has
abbrev pub Adds : {A : Type 0} → (Symbols → List A → Symbols → Type 0) → Symbols → Reading A → Type 0
Adds {A = A} R ts (Some p) = (xs : List A) (rest : Symbols) → R p.1 xs rest → R ts (p.0 ∷ xs) rest
Adds R ts None = Unit {0}

-- ---- the equation

module _ {A : Type 0} (item : Reader A) where
  -- a bound that is no less than the length plays no part
  enough : (n m : ℕ) (ts : Symbols) → length ts ≤ n → length ts ≤ m → many_in item n ts ≡ many_in item m ts
  unfolding many_in
  enough zero zero ts h k = refl
  enough zero (suc m) ts h k = sym (go_on-ends (item ts) (many_in item m) ts h)
  enough (suc n) zero ts h k = go_on-ends (item ts) (many_in item n) ts k
  enough (suc n) (suc m) ts h k = go_on-same (item ts) (many_in item n) (many_in item m) ts
      (λ us shorter. enough n m us (omega arith) (omega arith))

  turn : (n : ℕ) (ts : Symbols) → length ts ≤ n → many_in item n ts ≡ go_on (item ts) (many item) ts
  unfolding many_in many
  turn zero ts h = sym (go_on-ends (item ts) (many item) ts h)
  turn (suc n) ts h = go_on-same (item ts) (many_in item n) (many item) ts
      (λ us shorter. enough n (length us) us (omega arith) (omega arith))

  pub many-turn : (ts : Symbols) → many item ts ≡ go_on (item ts) (many item) ts
  unfolding many
  many-turn ts = turn (length ts) ts (omega arith)

  pub many-none : (ts : Symbols) → item ts ≡ None → many item ts ≡ ([], ts)
  many-none ts ends = many-turn ts ∙ ap (λ r. go_on r (many item) ts) ends

  pub many-more : (ts us : Symbols) (x : A) → item ts ≡ Some (x, us) → length us < length ts → many item ts ≡ before x (many item us)
  many-more ts us x is shorter = many-turn ts ∙ ap (λ r. go_on r (many item) ts) is ∙ go_on-more x us (many item) ts shorter

  -- ---- what holds of the list

  module _ (R : Symbols → List A → Symbols → Type 0) (nil : (ts : Symbols) → R ts [] ts) (cons : (ts : Symbols) → Adds R ts (item ts)) where
    sound_on : (r : Reading A) (again : Symbols → List A × Symbols) (ts : Symbols)
        → ((us : Symbols) → R us (again us).0 (again us).1) → Adds R ts r → R ts (go_on r again ts).0 (go_on r again ts).1
    sound_on None again ts more adds = nil ts
    sound_on (Some p) again ts more adds = by_test (nat_lt (length p.1) (length ts)) where
      by_test : (b : Bool) → R ts (cond b (before p.0 (again p.1)) ([], ts)).0 (cond b (before p.0 (again p.1)) ([], ts)).1
      by_test true = adds (again p.1).0 (again p.1).1 (more p.1)
      by_test false = nil ts

    sound_in : (n : ℕ) (ts : Symbols) → R ts (many_in item n ts).0 (many_in item n ts).1
    unfolding many_in
    sound_in zero ts = nil ts
    sound_in (suc n) ts = sound_on (item ts) (many_in item n) ts (sound_in n) (cons ts)

    pub many-sound : (ts : Symbols) → R ts (many item ts).0 (many item ts).1
    unfolding many
    many-sound ts = sound_in (length ts) ts

  shrinks_on : (r : Reading A) (again : Symbols → List A × Symbols) (ts : Symbols)
      → ((us : Symbols) → length (again us).1 ≤ length us) → length (go_on r again ts).1 ≤ length ts
  shrinks_on None again ts more = omega arith
  shrinks_on (Some p) again ts more = by_test (nat_lt (length p.1) (length ts)) refl where
    by_test : (b : Bool) → nat_lt (length p.1) (length ts) ≡ b → length (cond b (before p.0 (again p.1)) ([], ts)).1 ≤ length ts
    by_test true shorter = omega (arith, more p.1, ltb-true (length p.1) (length ts) shorter)
    by_test false _ = omega arith

  shrinks_in : (n : ℕ) (ts : Symbols) → length (many_in item n ts).1 ≤ length ts
  unfolding many_in
  shrinks_in zero ts = omega arith
  shrinks_in (suc n) ts = shrinks_on (item ts) (many_in item n) ts (shrinks_in n)

  pub many-shrinks : (ts : Symbols) → length (many item ts).1 ≤ length ts
  unfolding many
  many-shrinks ts = shrinks_in (length ts) ts

-- ---- a loop that reads item by item

-- what was read before, in front
abbrev pub behind : {A : Type 0} → List A → List A × Symbols → List A × Symbols
behind done more = (done ++ more.0, more.1)

module _ {A : Type 0} (item : Reader A) (all : Symbols) (whole : List A × Symbols) (done : List A) (at : ℕ) where
  -- one turn
  pub loop-more : (x : A) (next : ℕ) → whole ≡ behind done (many item (drop at all)) → item (drop at all) ≡ Some (x, drop next all)
      → at < next → next ≤ length all → whole ≡ behind (done ++ x ∷ []) (many item (drop next all))
  loop-more x next so_far is rises within =
      so_far ∙ ap (behind done) (many-more item (drop at all) (drop next all) x is shorter)
      ∙ ap (λ (xs : List A). (xs, (many item (drop next all)).1)) (sym (append_assoc done (x ∷ []) (many item (drop next all)).0)) where
        shorter : length (drop next all) < length (drop at all)
        shorter = omega (arith, length-drop next all, length-drop at all)

  -- at the end
  pub loop-end : whole ≡ behind done (many item (drop at all)) → item (drop at all) ≡ None → whole ≡ (done, drop at all)
  loop-end so_far ends =
      so_far ∙ ap (behind done) (many-none item (drop at all) ends) ∙ ap (λ (xs : List A). (xs, drop at all)) (append-nil done)
