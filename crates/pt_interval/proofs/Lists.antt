-- Lists of values of sets.
use Rattle.std.proofs.Common.{◌≡◌, ◌≢◌, ℕ, suc, ◌+◌, ◌-◌, ◌<◌, ◌≤◌, Bool, true, false, ◌||◌, List, [], ◌∷◌, ◌++◌, length, refl, sym, ap, ◌∙◌, subst, inl, inr, arith, length-append}
use Rattle.std.specs.declared.cmp.Ordering.{Ordering}
use Rattle.std.specs.declared.cmp.Ordering.TheVariants.{Less}
use Rattle.std.specs.Ordering.{is_eq}
use Rattle.std.specs.Cmp.{IsTotalOrder, tied_itself}
use Rattle.std.proofs.lemmas.Bool.{true≢false, or_cases, or_left, or_right}
use Rattle.pt_interval.specs.Counting.{AreAll, AreIn, AreRising, AreUpTo, HasAll, IsAmong, IsCount}

pub all_map : {T : Type 0} (P Q : T → Type 0) (vs : List T) → ((v : T) → P v → Q v) → AreAll P vs → AreAll Q vs
all_map P Q [] f all = tt
all_map P Q (v ∷ vs) f all = (f v all.0, all_map P Q vs f all.1)

all-append : {T : Type 0} (P : T → Type 0) (vs ws : List T) → AreAll P vs → AreAll P ws → AreAll P (vs ++ ws)
all-append P [] ws all more = more
all-append P (v ∷ vs) ws all more = (all.0, all-append P vs ws all.1 more)

among_left : {T : Type 0} (v : T) (vs ws : List T) → IsAmong v vs → IsAmong v (vs ++ ws)
among_left v [] ws h = absurd h
among_left v (first ∷ vs) ws (inl e) = inl e
among_left v (first ∷ vs) ws (inr h) = inr (among_left v vs ws h)

among_right : {T : Type 0} (v : T) (vs ws : List T) → IsAmong v ws → IsAmong v (vs ++ ws)
among_right v [] ws h = h
among_right v (first ∷ vs) ws h = inr (among_right v vs ws h)

-- lists rise behind one another where all of one is below all of the other
rising-append : {T : Type 0} (cmp : T → T → Ordering) (P Q : T → Type 0) (vs ws : List T) → AreRising cmp vs → AreRising cmp ws → AreAll P vs → AreAll Q ws
    → ((v w : T) → P v → Q w → cmp v w ≡ Less) → AreRising cmp (vs ++ ws)
rising-append cmp P Q [] ws rising more all others below = more
rising-append cmp P Q (v ∷ vs) ws rising more all others below = (
  all-append (λ w. cmp v w ≡ Less) vs ws rising.0 (all_map Q (λ w. cmp v w ≡ Less) ws (λ w. below v w all.0) others),
  rising-append cmp P Q vs ws rising.1 more all.1 others below,
)

-- the values of a set, and behind them those of another
pub joined : {T : Type 0} (cmp : T → T → Ordering) (is_value : T → Bool) (p q both : T → Bool) (limit : ℕ) (vs ws : List T)
    → ((v w : T) → p v ≡ true → q w ≡ true → cmp v w ≡ Less) → ((v : T) → both v ≡ (p v || q v))
    → AreUpTo cmp is_value p limit vs → AreUpTo cmp is_value q (limit - length vs) ws → AreUpTo cmp is_value both limit (vs ++ ws)
joined cmp is_value p q both limit vs ws below same front rest = record {
  inside = record {
    rising = rising-append cmp (λ v. (is_value v ≡ true) × (p v ≡ true)) (λ w. (is_value w ≡ true) × (q w ≡ true)) vs ws front.inside.rising rest.inside.rising front.inside.inside rest.inside.inside
        (λ v w h k. below v w h.1 k.1);
    inside = all-append (λ v. (is_value v ≡ true) × (both v ≡ true)) vs ws
        (all_map (λ v. (is_value v ≡ true) × (p v ≡ true)) (λ v. (is_value v ≡ true) × (both v ≡ true)) vs (λ v h. (h.0, same v ∙ or_left (p v) (q v) h.1)) front.inside.inside)
        (all_map (λ v. (is_value v ≡ true) × (q v ≡ true)) (λ v. (is_value v ≡ true) × (both v ≡ true)) ws (λ v h. (h.0, same v ∙ or_right (p v) (q v) h.1)) rest.inside.inside);
  };
  few = omega (arith, length-append vs ws, front.few, rest.few);
  whole = λ less v value h.
      let small : length vs + length ws < limit = omega (arith, length-append vs ws, less) in
      elim (or_cases (p v) (q v) (sym (same v) ∙ h)) [
        | inl k ↦ among_left v vs ws (front.whole (omega (arith, small)) v value k)
        | inr k ↦ among_right v vs ws (rest.whole (omega (arith, small)) v value k)
      ];
}

pub counted : {T : Type 0} (cmp : T → T → Ordering) (is_value : T → Bool) (p q both : T → Bool) (limit m n : ℕ)
    → ((v w : T) → p v ≡ true → q w ≡ true → cmp v w ≡ Less) → ((v : T) → both v ≡ (p v || q v))
    → IsCount cmp is_value p limit m → IsCount cmp is_value q (limit - m) n → IsCount cmp is_value both limit (m + n)
counted cmp is_value p q both limit m n below same front rest =
    let more = subst (λ k. AreUpTo cmp is_value q (limit - k) rest.0) (sym front.2) rest.1 in
    (front.0 ++ rest.0, joined cmp is_value p q both limit front.0 rest.0 below same front.1 more, omega (arith, length-append front.0 rest.0, front.2, rest.2))

-- the same set by another test
pub up_to_same : {T : Type 0} (cmp : T → T → Ordering) (is_value p q : T → Bool) (limit : ℕ) (vs : List T) → ((v : T) → is_value v ≡ true → p v ≡ q v)
    → AreUpTo cmp is_value p limit vs → AreUpTo cmp is_value q limit vs
up_to_same cmp is_value p q limit vs same up = record {
  inside = record {
    rising = up.inside.rising;
    inside = all_map (λ v. (is_value v ≡ true) × (p v ≡ true)) (λ v. (is_value v ≡ true) × (q v ≡ true)) vs (λ v h. (h.0, sym (same v h.0) ∙ h.1)) up.inside.inside;
  };
  few = up.few;
  whole = λ less v value h. up.whole less v value (same v value ∙ h);
}

-- nothing is in an empty set
pub no_values : {T : Type 0} (cmp : T → T → Ordering) (is_value p : T → Bool) (limit : ℕ) → ((v : T) → is_value v ≡ true → p v ≡ false) → AreUpTo cmp is_value p limit []
no_values cmp is_value p limit none = record {
  inside = record { rising = tt; inside = tt };
  few = omega arith;
  whole = λ less v value h. absurd (true≢false (sym h ∙ none v value));
}

-- ---- no more different values than there are

without : {T : Type 0} (v : T) (ys : List T) → IsAmong v ys → List T
without v [] h = absurd h
without v (y ∷ ys) (inl e) = ys
without v (y ∷ ys) (inr h) = y ∷ without v ys h

length-without : {T : Type 0} (v : T) (ys : List T) (h : IsAmong v ys) → length ys ≡ suc (length (without v ys h))
unfolding without
length-without v [] h = absurd h
length-without v (y ∷ ys) (inl e) = refl
length-without v (y ∷ ys) (inr h) = ap suc (length-without v ys h)

among_without : {T : Type 0} (v w : T) (ys : List T) (h : IsAmong v ys) → w ≢ v → IsAmong w ys → IsAmong w (without v ys h)
unfolding without
among_without v w [] h other k = absurd h
among_without v w (y ∷ ys) (inl e) other (inl f) = absurd (other (f ∙ sym e))
among_without v w (y ∷ ys) (inl e) other (inr k) = k
among_without v w (y ∷ ys) (inr h) other (inl f) = inl f
among_without v w (y ∷ ys) (inr h) other (inr k) = inr (among_without v w ys h other k)

module _ {T : Type 0} {cmp : T → T → Ordering} (order : IsTotalOrder cmp) where
  apart : (v w : T) → cmp v w ≡ Less → w ≢ v
  apart v w less e = absurd (true≢false (sym (ap is_eq (tied_itself order v)) ∙ sym (ap (λ u. is_eq (cmp v u)) e) ∙ ap is_eq less))

  others_among : (v : T) (vs ys : List T) (h : IsAmong v ys) → AreAll (λ w. cmp v w ≡ Less) vs → AreAll (λ w. IsAmong w ys) vs → AreAll (λ w. IsAmong w (without v ys h)) vs
  others_among v [] ys h below all = tt
  others_among v (w ∷ vs) ys h below all = (among_without v w ys h (apart v w below.0) all.0, others_among v vs ys h below.1 all.1)

  -- a rising list whose values are all among others is at most as long as those
  pub few : (vs ys : List T) → AreRising cmp vs → AreAll (λ v. IsAmong v ys) vs → length vs ≤ length ys
  few [] ys rising all = omega arith
  few (v ∷ vs) ys rising all =
      let rest : length vs ≤ length (without v ys all.0) = few vs (without v ys all.0) rising.1 (others_among v vs ys all.0 rising.0 all.1) in
      omega (arith, rest, length-without v ys all.0)

  -- of two lists of a set's values, the second with all of them, the first isn't longer
  pub no_longer : (is_value is_in : T → Bool) (vs ws : List T) → AreIn cmp is_value is_in vs → HasAll is_value is_in ws → length vs ≤ length ws
  no_longer is_value is_in vs ws some all = few vs ws some.rising (all_map (λ v. (is_value v ≡ true) × (is_in v ≡ true)) (λ v. IsAmong v ws) vs (λ v h. all v h.0 h.1) some.inside)
