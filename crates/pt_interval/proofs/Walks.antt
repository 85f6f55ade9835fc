-- A span's values one after the other are up to so many of them, in order.
use Rattle.std.proofs.Common.{◌≡◌, ℕ, zero, suc, Bool, true, false, not, ◌&&◌, List, [], ◌∷◌, refl, sym, ap, ◌∙◌, ◌⊎◌, inl, inr, arith, Option, if◌then◌else◌}
use Rattle.std.specs.declared.cmp.Ordering.{Ordering}
use Rattle.std.specs.declared.cmp.Ordering.TheVariants.{Less}
use Rattle.std.proofs.lemmas.Bool.{true≢false, and_from, and_parts}
use Rattle.pt_interval.specs.Line.{at_most, is_past, IsLine}
use Rattle.pt_interval.specs.Spans.{is_within}
use Rattle.pt_interval.specs.Counting.{AreUpTo}
use Rattle.pt_interval.specs.Walk.{walk}
use Rattle.pt_interval.proofs.Order.{less, level, past_more, reflexive, trans, turn}
use Rattle.pt_interval.proofs.Lists.{all_map, no_values}

module _ {T : Type 0} (cmp : T → T → Ordering) (next : T → T) (is_greatest : T → Bool) where
  -- none are met, where the end isn't above the beginning
  pub walk-past : (n : ℕ) (from : T) (to : Option T) → is_past cmp from to ≡ true → walk cmp next is_greatest n from to ≡ []
  walk-past zero from to past = refl
  walk-past (suc n) from to past = ap (λ b. if b then [] else (if is_greatest from then from ∷ [] else from ∷ walk cmp next is_greatest n (next from) to)) past

  pub walk-step : (n : ℕ) (from : T) (to : Option T) → is_past cmp from to ≡ false → is_greatest from ≡ false → walk cmp next is_greatest (suc n) from to ≡ from ∷ walk cmp next is_greatest n (next from) to
  walk-step n from to before inner =
      ap (λ b. if b then [] else (if is_greatest from then from ∷ [] else from ∷ walk cmp next is_greatest n (next from) to)) before
      ∙ ap (λ b. if b then from ∷ [] else from ∷ walk cmp next is_greatest n (next from) to) inner

  pub walk-last : (n : ℕ) (from : T) (to : Option T) → is_past cmp from to ≡ false → is_greatest from ≡ true → walk cmp next is_greatest (suc n) from to ≡ from ∷ []
  walk-last n from to before last =
      ap (λ b. if b then [] else (if is_greatest from then from ∷ [] else from ∷ walk cmp next is_greatest n (next from) to)) before
      ∙ ap (λ b. if b then from ∷ [] else from ∷ walk cmp next is_greatest n (next from) to) last

module _ {T : Type 0} {cmp : T → T → Ordering} {is_value : T → Bool} {least : T} {next : T → T} {is_greatest : T → Bool} (line : IsLine cmp is_value least next is_greatest) where
  -- v is `from`, or at or behind the next one
  first_or_later : (from v : T) → is_value from ≡ true → is_value v ≡ true → is_greatest from ≡ false → at_most cmp from v ≡ true → (from ≡ v) ⊎ (at_most cmp (next from) v ≡ true)
  first_or_later from v from_in value inner h = by (at_most cmp v from) refl
    where
      by : (b : Bool) → at_most cmp v from ≡ b → (from ≡ v) ⊎ (at_most cmp (next from) v ≡ true)
      by true e = inl (line.one from v (level line.order from v h e))
      by false e = inr (line.next_least from v from_in value inner e)

  next_less : (from v : T) → is_value from ≡ true → is_greatest from ≡ false → at_most cmp (next from) v ≡ true → cmp from v ≡ Less
  next_less from v from_in inner h = less line.order from v (by (at_most cmp v from) refl)
    where
      by : (b : Bool) → at_most cmp v from ≡ b → b ≡ false
      by true e = absurd (true≢false (sym (trans line.order (next from) v from h e) ∙ line.next_above from from_in inner))
      by false e = refl

  from_less : (from v : T) → is_value from ≡ true → is_greatest from ≡ false → at_most cmp (next from) v ≡ true → at_most cmp from v ≡ true
  from_less from v from_in inner h = trans line.order from (next from) v (turn line.order (next from) from (line.next_above from from_in inner)) h

  empty_walk : (n : ℕ) (from : T) (to : Option T) → is_past cmp from to ≡ true → AreUpTo cmp is_value (is_within cmp (record { from = from; to = to })) n []
  empty_walk n from to past = no_values cmp is_value (is_within cmp (record { from = from; to = to })) n (λ v value. by v (at_most cmp from v) refl)
    where
      by : (v : T) (b : Bool) → at_most cmp from v ≡ b → (b && not (is_past cmp v to)) ≡ false
      by v true e = ap not (past_more line.order from v to e past)
      by v false e = refl

  one_walk : (n : ℕ) (from : T) (to : Option T) → is_value from ≡ true → is_past cmp from to ≡ false → is_greatest from ≡ true
      → AreUpTo cmp is_value (is_within cmp (record { from = from; to = to })) (suc n) (from ∷ [])
  one_walk n from to from_in before last = record {
    inside = record {
      rising = (tt, tt);
      inside = ((from_in, and_from _ _ (reflexive line.order from) (ap not before)), tt);
    };
    few = omega arith;
    whole = λ less v value h. inl (sym (line.one from v (level line.order from v (and_parts _ _ h).0 (line.greatest_above from v from_in value last))));
  }

  next_walk : (n : ℕ) (from : T) (to : Option T) (rest : List T) → is_value from ≡ true → is_past cmp from to ≡ false → is_greatest from ≡ false
      → AreUpTo cmp is_value (is_within cmp (record { from = next from; to = to })) n rest
      → AreUpTo cmp is_value (is_within cmp (record { from = from; to = to })) (suc n) (from ∷ rest)
  next_walk n from to rest from_in before inner more = record {
    inside = record {
      rising = (all_map P (λ v. cmp from v ≡ Less) rest (λ v h. next_less from v from_in inner (and_parts _ _ h.1).0) more.inside.inside, more.inside.rising);
      inside = (
        (from_in, and_from _ _ (reflexive line.order from) (ap not before)),
        all_map P Q rest (λ v h. let both = and_parts _ _ h.1 in (h.0, and_from _ _ (from_less from v from_in inner both.0) both.1)) more.inside.inside,
      );
    };
    few = omega (arith, more.few);
    whole = λ less v value h.
        let both = and_parts _ _ h in
        elim (first_or_later from v from_in value inner both.0) [
          | inl e ↦ inl (sym e)
          | inr above ↦ inr (more.whole (omega (arith, less)) v value (and_from _ _ above both.1))
        ];
  }
    where
      P : T → Type 0
      P v = (is_value v ≡ true) × (is_within cmp (record { from = next from; to = to }) v ≡ true)

      Q : T → Type 0
      Q v = (is_value v ≡ true) × (is_within cmp (record { from = from; to = to }) v ≡ true)

  pub walk_up_to : (n : ℕ) (from : T) (to : Option T) → is_value from ≡ true
      → AreUpTo cmp is_value (is_within cmp (record { from = from; to = to })) n (walk cmp next is_greatest n from to)
  walk_up_to zero from to from_in = record {
    inside = record { rising = tt; inside = tt };
    few = omega arith;
    whole = λ less. absurd (omega (arith, less));
  }
  walk_up_to (suc n) from to from_in = by (is_past cmp from to) refl (is_greatest from) refl (λ inner. walk_up_to n (next from) to (line.next_value from from_in inner))
    where
      by : (a : Bool) → is_past cmp from to ≡ a → (b : Bool) → is_greatest from ≡ b
          → (is_greatest from ≡ false → AreUpTo cmp is_value (is_within cmp (record { from = next from; to = to })) n (walk cmp next is_greatest n (next from) to))
          → AreUpTo cmp is_value (is_within cmp (record { from = from; to = to })) (suc n)
          (if a then [] else (if b then from ∷ [] else from ∷ walk cmp next is_greatest n (next from) to))
      by true past b last rest = empty_walk (suc n) from to past
      by false before true last rest = one_walk n from to from_in before last
      by false before false inner rest = next_walk n from to (walk cmp next is_greatest n (next from) to) from_in before inner (rest inner)
