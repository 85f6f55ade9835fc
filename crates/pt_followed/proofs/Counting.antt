-- Marks, one after another; and the first part that passes a test.
use Rattle.std.proofs.Common.{◌≡◌, ◌↔◌, ℕ, ◌+◌, ◌<◌, ◌≤◌, arith, Bool, true, false, List, [], ◌∷◌, ◌++◌, length, get_or, Some, None, inl, inr, refl, sym, ap, subst, ◌∙◌}
use Rattle.std.specs.Prelude.{IsTrue}
use Rattle.std.specs.List.{position, position_or_len}
use Rattle.std.proofs.Math.ListN.{get_or-append}
use Rattle.std.proofs.Math.Seq.{get_or-append_seam}
use Rattle.std.proofs.lemmas.Bool.{cases_lt, cond_below, false≢true}
use Rattle.std.proofs.lemmas.List.{length-append}
use Rattle.std.proofs.lemmas.List.Sums.{position_or_len_is}
use Rattle.pt_followed.specs.Marks.{AreMarked}
use Rattle.pt_followed.specs.Steps.{IsDecided}

decided_is : (b : Bool) (P : Type 0) → IsDecided b P → IsTrue b ↔ P
decided_is true P h = (λ e. h, λ p. refl)
decided_is false P h = (λ e. absurd (false≢true e), λ p. absurd (h p))

pub none_marked : (P : ℕ → Type 0) (marks : List Bool) → marks ≡ [] → AreMarked 0 P marks
none_marked P marks none = subst (λ (ms : List Bool). AreMarked 0 P ms) (sym none) (record { as_many = refl; each = λ i within. absurd (omega (arith, within)) })

module _ (P : ℕ → Type 0) (marks : List Bool) (n : ℕ) (b : Bool) (so_far : AreMarked n P marks) (decided : IsDecided b (P n)) where
  long : length (marks ++ b ∷ []) ≡ n + 1
  long = let l = so_far.as_many in omega (arith, l, length-append marks (b ∷ []))

  at_end : get_or (marks ++ b ∷ []) n false ≡ b
  at_end = ap (λ (k : ℕ). get_or (marks ++ b ∷ []) k false) (sym so_far.as_many) ∙ get_or-append_seam marks b [] false

  each : (i : ℕ) → i < n + 1 → IsTrue (get_or (marks ++ b ∷ []) i false) ↔ P i
  each i within = elim (cases_lt i n) [
    | inl less ↦
        let kept = get_or-append marks (b ∷ []) false i (let l = so_far.as_many in omega (arith, l, less)) in
        subst (λ (t : Bool). IsTrue t ↔ P i) (sym kept) (so_far.each i less)
    | inr more ↦
        let same : n ≡ i = omega (arith, within, more) in
        subst (λ (k : ℕ). IsTrue (get_or (marks ++ b ∷ []) k false) ↔ P k) same (subst (λ (t : Bool). IsTrue t ↔ P n) (sym at_end) (decided_is b (P n) decided))
  ]

  pub one_marked : (after : List Bool) → after ≡ marks ++ b ∷ [] → AreMarked (n + 1) P after
  one_marked after is = subst (λ (ms : List Bool). AreMarked (n + 1) P ms) (sym is) (record { as_many = long; each = each })

-- so far is all
pub all_marked : (P : ℕ → Type 0) (marks : List Bool) (n m : ℕ) → AreMarked n P marks → n ≤ m → m ≤ n → AreMarked m P marks
all_marked P marks n m are low high = subst (λ (k : ℕ). AreMarked k P marks) (omega (arith, low, high)) are

-- marked by what comes to the same
pub marked_as : (n : ℕ) (P Q : ℕ → Type 0) (marks : List Bool) → ((i : ℕ) → i < n → P i ↔ Q i) → AreMarked n P marks → AreMarked n Q marks
marked_as n P Q marks same are = record {
  as_many = are.as_many;
  each = λ i within. (λ e. (same i within).0 ((are.each i within).0 e), λ q. (are.each i within).1 ((same i within).1 q));
}

-- ---- the first that passes

pub first_place : {X : Type 0} (p : X → Bool) (xs : List X) (i : ℕ) (d : X) → i < length xs → ((k : ℕ) → k < i → p (get_or xs k d) ≡ false) → p (get_or xs i d) ≡ true → position p xs ≡ Some i
first_place {X} p xs i d within before passes =
    let e = position_or_len_is p xs i d (omega (arith, within)) before (λ less. passes) in
    sym (cond_below (position_or_len p xs) (length xs) (Some (position_or_len p xs)) None (omega (arith, e, within))) ∙ ap Some e
