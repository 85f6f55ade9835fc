-- Marks that are held, or let go, one by one.
use Rattle.std.proofs.Common.{◌≡◌, ℕ, zero, suc, ◌+◌, ◌<◌, ◌≤◌, length, take, add-one, Bool, true, false, cond, ◌&&◌, ◌||◌, List, [], ◌∷◌, ◌++◌, get_or, Option, Some, None, refl, sym, ap, ◌∙◌, subst, arith, min, inl, inr, ◌⊎◌}
use Rattle.std.specs.Prelude.{Contains}
use Rattle.std.proofs.Math.Seq.{take-suc}
use Rattle.std.proofs.lemmas.List.{take_all}
use Rattle.std.proofs.lemmas.List.Folds.{list_any-append}
use Rattle.std.proofs.lemmas.List.Elements.{Contains-append_left, Contains-append_cases, Contains-push}
use Rattle.pt_unique.specs.Book.{is_whole, mark_eq, stands}
use Rattle.pt_unique.specs.Holders.{held_by, lesser, IsLeast}
use Rattle.pt_unique.proofs.Marks.{Mark}

abbrev is_own : Mark → Mark → Bool
is_own mark own = is_whole own.1 && mark_eq own mark

-- the last mark first
pub held_last : (rest : List Mark) (own mark : Mark) (w : Option ℕ) (before after : Mark → Option ℕ)
    → after mark ≡ cond (is_whole own.1 && mark_eq own mark) w (before mark) → held_by rest w after mark ≡ held_by (rest ++ own ∷ []) w before mark
held_last rest own mark w before after h =
    go (stands rest mark) (is_whole own.1 && mark_eq own mark) (before mark) (after mark) h ∙ sym (ap (λ b. cond b w (before mark)) (list_any-append (is_own mark) rest (own ∷ [])))
  where
    go : (s t : Bool) (x a : Option ℕ) → a ≡ cond t w x → cond s w a ≡ cond (s || (t || false)) w x
    go true t x a e = refl
    go false true x a e = e
    go false false x a e = e

-- one mark more
pub held_more : (done : List Mark) (own mark : Mark) (w : Option ℕ) (before : Mark → Option ℕ) (now after : Option ℕ)
    → now ≡ held_by done w before mark → after ≡ cond (is_whole own.1 && mark_eq own mark) w now → after ≡ held_by (done ++ own ∷ []) w before mark
held_more done own mark w before now after h step =
    go (stands done mark) (is_whole own.1 && mark_eq own mark) (before mark) h step ∙ sym (ap (λ b. cond b w (before mark)) (list_any-append (is_own mark) done (own ∷ [])))
  where
    go : (s t : Bool) (x : Option ℕ) → now ≡ cond s w x → after ≡ cond t w now → after ≡ cond (s || (t || false)) w x
    go true true x e f = f
    go true false x e f = f ∙ e
    go false true x e f = f
    go false false x e f = f ∙ e

-- # The least holder

pub least_none : (holders : Mark → Option ℕ) → IsLeast holders [] None
least_none holders = record { found = λ serial e. absurd cc; low = λ serial mark there e. absurd (omega (arith, there.1)) }

abbrev Found : (Mark → Option ℕ) → List Mark → Option ℕ → Type 0
Found holders marks least = (serial : ℕ) → least ≡ Some serial → (mark : Mark) × Contains marks mark × (holders mark ≡ Some serial)

-- the lesser of two is one of them
lesser_is : (a b : Option ℕ) (serial : ℕ) → lesser a b ≡ Some serial → (a ≡ Some serial) ⊎ (b ≡ Some serial)
lesser_is None b serial e = inr e
lesser_is (Some m) None serial e = inl e
lesser_is (Some m) (Some n) serial e = go (min_is m n)
  where
    min_is : (m n : ℕ) → (min m n ≡ m) ⊎ (min m n ≡ n)
    min_is m n = grind arith

    go : (min m n ≡ m) ⊎ (min m n ≡ n) → (Some m ≡ Some serial) ⊎ (Some n ≡ Some serial)
    go (inl f) = inl (ap Some (sym f) ∙ e)
    go (inr f) = inr (ap Some (sym f) ∙ e)

lesser_left : (a b : Option ℕ) (m : ℕ) → a ≡ Some m → (n : ℕ) × (lesser a b ≡ Some n) × (n ≤ m)
lesser_left None b m e = absurd cc
lesser_left (Some k) None m e = (k, refl, (let f : k ≡ m = cc in omega arith))
lesser_left (Some k) (Some n) m e = (min k n, refl, (let f : k ≡ m = cc in omega arith))

lesser_right : (a b : Option ℕ) (m : ℕ) → b ≡ Some m → (n : ℕ) × (lesser a b ≡ Some n) × (n ≤ m)
lesser_right None b m e = (m, e, omega arith)
lesser_right (Some k) None m e = absurd cc
lesser_right (Some k) (Some n) m e = (min k n, refl, (let f : n ≡ m = cc in omega arith))

pub least_more : (holders : Mark → Option ℕ) (done : List Mark) (mark : Mark) (least : Option ℕ) → IsLeast holders done least → IsLeast holders (done ++ mark ∷ []) (lesser least (holders mark))
least_more holders done mark least is = record {
  found = λ serial e. found_in serial (lesser_is least (holders mark) serial e);
  low = λ serial other there e. low_in serial other e (Contains-append_cases done (mark ∷ []) other there);
}
  where
    found_in : (serial : ℕ) → (least ≡ Some serial) ⊎ (holders mark ≡ Some serial) → (other : Mark) × Contains (done ++ mark ∷ []) other × (holders other ≡ Some serial)
    found_in serial (inl e) = let f = is.found serial e in (f.0, Contains-append_left done (mark ∷ []) f.0 f.1, f.2)
    found_in serial (inr e) = (mark, Contains-push done mark, e)

    below : (serial n : ℕ) → n ≤ serial → (k : ℕ) × (lesser least (holders mark) ≡ Some k) × (k ≤ n) → (k : ℕ) × (lesser least (holders mark) ≡ Some k) × (k ≤ serial)
    below serial n le (k, e, low) = (k, e, omega arith)

    only : (x : Mark) → Contains (mark ∷ []) x → mark ≡ x
    only x (k, b, e) = go k b e
      where
        go : (k : ℕ) → k < 1 → get_or (mark ∷ []) k x ≡ x → mark ≡ x
        go zero b e = e
        go (suc k) b e = absurd (omega arith)

    low_in : (serial : ℕ) (other : Mark) → holders other ≡ Some serial → Contains done other ⊎ Contains (mark ∷ []) other → (k : ℕ) × (lesser least (holders mark) ≡ Some k) × (k ≤ serial)
    low_in serial other e (inl there) = let f = is.low serial other there e in below serial f.0 f.2 (lesser_left least (holders mark) f.0 f.1)
    low_in serial other e (inr there) = lesser_right least (holders mark) serial (ap holders (only other there) ∙ e)

pub least_step : (holders : Mark → Option ℕ) (marks : List Mark) (i : ℕ) (mark : Mark) (least next : Option ℕ) → i < length marks → mark ≡ get_or marks i mark
    → IsLeast holders (take i marks) least → next ≡ lesser least (holders mark) → IsLeast holders (take (i + 1) marks) next
least_step holders marks i mark least next within is so_far step =
    let more : take (i + 1) marks ≡ take i marks ++ mark ∷ [] = ap (λ n. take n marks) (add-one i) ∙ take-suc marks i mark within ∙ ap (λ (m : Mark). take i marks ++ m ∷ []) (sym is) in
    subst (λ (ms : List Mark). IsLeast holders ms next) (sym more)
    (subst (λ (r : Option ℕ). IsLeast holders (take i marks ++ mark ∷ []) r) (sym step) (least_more holders (take i marks) mark least so_far))

pub least_all : (holders : Mark → Option ℕ) (marks : List Mark) (i : ℕ) (least : Option ℕ) → length marks ≤ i → IsLeast holders (take i marks) least → IsLeast holders marks least
least_all holders marks i least all is = subst (λ (ms : List Mark). IsLeast holders ms least) (take_all i marks all) is
