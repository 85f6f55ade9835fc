-- Whether some tuple lies between bounds, by the cases of its first item.
use Rattle.std.proofs.Common.{inl, inr, ◌≡◌, ◌⊎◌, ◌≤◌, arith, length, Bool, true, false, ◌&&◌, List, [], ◌∷◌, drop, Option, Some, None, refl, sym, ap, subst, ◌∙◌}
use Rattle.std.specs.Prelude.{◌==◌}
use Rattle.std.proofs.lemmas.Bool.{and_from, and_parts, or_cases, or_left, or_right, true≢false}
use Rattle.pt_value.specs.declared.value.Value.{Value}
use Rattle.pt_ast.specs.declared.table.Bound.{Bound}
use Rattle.pt_reach.specs.declared.domain.Domain.{Domain}
use Rattle.pt_reach.specs.Domains.{IsSome, has_in}
use Rattle.pt_followed.specs.Steps.{AreItems, HasBetween, HasCase, IsDecided, behind, is_before, is_below, is_from, is_past, is_tied}
use Rattle.pt_followed.proofs.Edges.{below_first, from_first}

-- ---- no item

pub free_told : (b : Bool) (low high : Option (List Bound)) (sets : List Domain) → sets ≡ [] → b ≡ (is_from low [] && is_below high []) → IsDecided b (HasBetween sets low high)
free_told true low high sets none e =
    let both = and_parts (is_from low []) (is_below high []) (sym e) in
    subst (λ s. HasBetween s low high) (sym none) ([], tt, both.0, both.1)
free_told false low high sets none e = λ h. no (subst (λ s. HasBetween s low high) none h)
  where
    no : HasBetween [] low high → ⊥
    no ([], are, from, below) = true≢false (sym (and_from (is_from low []) (is_below high []) from below) ∙ sym e)
    no (v ∷ vs, are, from, below) = are

-- ---- a first item

-- tests that agree
pub same_some : (is_in f g p q : Value → Bool) → ((v : Value) → f v ≡ p v) → ((v : Value) → g v ≡ q v) → IsSome is_in f g → IsSome is_in p q
same_some is_in f g p q first second (v, held, passes, too) = (v, held, sym (first v) ∙ passes, sym (second v) ∙ too)

pub same_case : (sets : List Domain) (f g p q : Value → Bool) (low high : Option (List Bound)) → ((v : Value) → f v ≡ p v) → ((v : Value) → g v ≡ q v) → HasCase sets f g low high → HasCase sets p q low high
same_case [] f g p q low high first second h = h
same_case (set ∷ sets) f g p q low high first second h = (same_some (has_in set) f g p q first second h.0, h.1)

module _ (low high : Option (List Bound)) where
  -- a case gives a tuple: the first item and the others
  from_some : (v : Value) (vs : List Value) → (is_past low v ≡ true) ⊎ ((is_tied low v ≡ true) × (is_from (behind low) vs ≡ true)) → is_from low (v ∷ vs) ≡ true
  from_some v vs (inl h) = from_first low v vs ∙ or_left (is_past low v) _ h
  from_some v vs (inr h) = from_first low v vs ∙ or_right (is_past low v) _ (and_from (is_tied low v) (is_from (behind low) vs) h.0 h.1)

  below_some : (v : Value) (vs : List Value) → (is_before high v ≡ true) ⊎ ((is_tied high v ≡ true) × (is_below (behind high) vs ≡ true)) → is_below high (v ∷ vs) ≡ true
  below_some v vs (inl h) = below_first high v vs ∙ or_left (is_before high v) _ h
  below_some v vs (inr h) = below_first high v vs ∙ or_right (is_before high v) _ (and_from (is_tied high v) (is_below (behind high) vs) h.0 h.1)

  pub inside : (sets : List Domain) → HasCase sets (is_past low) (is_before high) None None → HasBetween sets low high
  inside [] h = absurd h
  inside (set ∷ sets) ((v, held, first, second), (vs, are, from, below)) = (v ∷ vs, (held, are), from_some v vs (inl first), below_some v vs (inl second))

  pub at_low : (sets : List Domain) → HasCase sets (is_tied low) (is_before high) (behind low) None → HasBetween sets low high
  at_low [] h = absurd h
  at_low (set ∷ sets) ((v, held, first, second), (vs, are, from, below)) = (v ∷ vs, (held, are), from_some v vs (inr (first, from)), below_some v vs (inl second))

  pub at_high : (sets : List Domain) → HasCase sets (is_past low) (is_tied high) None (behind high) → HasBetween sets low high
  at_high [] h = absurd h
  at_high (set ∷ sets) ((v, held, first, second), (vs, are, from, below)) = (v ∷ vs, (held, are), from_some v vs (inl first), below_some v vs (inr (second, below)))

  pub at_both : (sets : List Domain) → HasCase sets (is_tied low) (is_tied high) (behind low) (behind high) → HasBetween sets low high
  at_both [] h = absurd h
  at_both (set ∷ sets) ((v, held, first, second), (vs, are, from, below)) = (v ∷ vs, (held, are), from_some v vs (inr (first, from)), below_some v vs (inr (second, below)))

  from_told : (v : Value) (vs : List Value) → is_from low (v ∷ vs) ≡ true → (is_past low v ≡ true) ⊎ ((is_tied low v ≡ true) × (is_from (behind low) vs ≡ true))
  from_told v vs e = elim (or_cases (is_past low v) (is_tied low v && is_from (behind low) vs) (sym (from_first low v vs) ∙ e)) [
    | inl h ↦ inl h
    | inr h ↦ inr (and_parts (is_tied low v) (is_from (behind low) vs) h)
  ]

  below_told : (v : Value) (vs : List Value) → is_below high (v ∷ vs) ≡ true → (is_before high v ≡ true) ⊎ ((is_tied high v ≡ true) × (is_below (behind high) vs ≡ true))
  below_told v vs e = elim (or_cases (is_before high v) (is_tied high v && is_below (behind high) vs) (sym (below_first high v vs) ∙ e)) [
    | inl h ↦ inl h
    | inr h ↦ inr (and_parts (is_tied high v) (is_below (behind high) vs) h)
  ]

  -- where the first three cases are out, the last one decides
  pub last_case : (sets : List Domain) (b : Bool) → (sets ≡ [] → ⊥) → ¬ (HasCase sets (is_past low) (is_before high) None None) → ¬ (HasCase sets (is_tied low) (is_before high) (behind low) None)
      → ¬ (HasCase sets (is_past low) (is_tied high) None (behind high)) → IsDecided b (HasCase sets (is_tied low) (is_tied high) (behind low) (behind high)) → IsDecided b (HasBetween sets low high)
  last_case sets true some one two three four = at_both sets four
  last_case [] false some one two three four = absurd (some refl)
  last_case (set ∷ sets) false some one two three four = no
    where
      by : (v : Value) (vs : List Value) → has_in set v ≡ true → AreItems sets vs → (is_past low v ≡ true) ⊎ ((is_tied low v ≡ true) × (is_from (behind low) vs ≡ true))
          → (is_before high v ≡ true) ⊎ ((is_tied high v ≡ true) × (is_below (behind high) vs ≡ true)) → ⊥
      by v vs held are (inl p) (inl q) = one ((v, held, p, q), (vs, are, refl, refl))
      by v vs held are (inr p) (inl q) = two ((v, held, p.0, q), (vs, are, p.1, refl))
      by v vs held are (inl p) (inr q) = three ((v, held, p, q.0), (vs, are, refl, q.1))
      by v vs held are (inr p) (inr q) = four ((v, held, p.0, q.0), (vs, are, p.1, q.1))

      no : HasBetween (set ∷ sets) low high → ⊥
      no ([], are, from, below) = are
      no (v ∷ vs, are, from, below) = by v vs are.0 are.1 (from_told v vs from) (below_told v vs below)

-- ---- a case, from whether there is a first item and whether there are others

pub no_first : (sets : List Domain) (set : Domain) (f g : Value → Bool) (low high : Option (List Bound)) → sets ≡ set ∷ drop 1 sets → ¬ (IsSome (has_in set) f g) → ¬ (HasCase sets f g low high)
no_first [] set f g low high is none h = h
no_first (own ∷ sets) set f g low high is none h = none (subst (λ (d : Domain). IsSome (has_in d) f g) (let e : own ≡ set = cc in e) h.0)

pub with_rest : (b : Bool) (sets : List Domain) (set : Domain) (f g : Value → Bool) (low high : Option (List Bound)) → sets ≡ set ∷ drop 1 sets → IsSome (has_in set) f g → IsDecided b (HasBetween (drop 1 sets) low high)
    → IsDecided b (HasCase sets f g low high)
with_rest b [] set f g low high is some rest = absurd (cc)
with_rest true (own ∷ sets) set f g low high is some rest = (subst (λ (d : Domain). IsSome (has_in d) f g) (let e : set ≡ own = cc in e) some, rest)
with_rest false (own ∷ sets) set f g low high is some rest = λ h. rest h.1

pub free_below : (bounds : List Bound) → 1 ≤ length bounds → true ≡ is_below (Some bounds) []
free_below [] some = absurd (omega (arith, some))
free_below (bound ∷ bounds) some = refl

pub free_from : (bounds : List Bound) → 1 ≤ length bounds → false ≡ is_from (Some bounds) []
free_from [] some = absurd (omega (arith, some))
free_from (bound ∷ bounds) some = refl

pub some_sets : (sets : List Domain) (b : Bool) → b ≡ (length sets == 0) → b ≡ false → sets ≡ [] → ⊥
some_sets sets b told some none = true≢false (sym (ap (λ (s : List Domain). length s == 0) none) ∙ sym told ∙ some)

-- what is told of a case, in other words
pub case_as : (b : Bool) (sets : List Domain) (f g p q : Value → Bool) (l h low high : Option (List Bound)) → ((v : Value) → f v ≡ p v) → ((v : Value) → g v ≡ q v) → l ≡ low → h ≡ high
    → IsDecided b (HasCase sets f g l h) → IsDecided b (HasCase sets p q low high)
case_as true sets f g p q l h low high first second lows highs case =
    subst (λ (x : Option (List Bound)). HasCase sets p q low x) highs (subst (λ (x : Option (List Bound)). HasCase sets p q x h) lows (same_case sets f g p q l h first second case))
case_as false sets f g p q l h low high first second lows highs none = λ case.
    none (same_case sets p q f g l h (λ v. sym (first v)) (λ v. sym (second v))
    (subst (λ (x : Option (List Bound)). HasCase sets p q x h) (sym lows) (subst (λ (x : Option (List Bound)). HasCase sets p q low x) (sym highs) case)))
