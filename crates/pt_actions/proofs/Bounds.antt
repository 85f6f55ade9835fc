-- Where no bound and no list of values is at fault, none is among fewer partitions.
use Rattle.std.proofs.Common.{◌≡◌, ℕ, zero, suc, ◌+◌, ◌-◌, ◌<◌, Bool, true, false, not, ◌||◌, nat_lt, List, [], ◌∷◌, ◌++◌, map, length, take, get_or, Option, Some, None, refl, sym, ap, ◌∙◌, arith, inl, inr}
use Rattle.std.specs.declared.cmp.Ordering.{Ordering}
use Rattle.std.specs.declared.cmp.Ordering.TheVariants.{Less, Equal, Greater}
use Rattle.std.specs.Ordering.{is_gt, ordering_reverse}
use Rattle.std.specs.Cmp.{upto}
use Rattle.std.specs.List.{list_all, position, range_with_len}
use Rattle.std.specs.Option.{option_map}
use Rattle.std.proofs.lemmas.Bool.{and_cases, and_left, and_right, cases_lt, le-ltb, lt-ltb, not-false, not_from_true, or_from, or_parts, true_from_ne_false, true≢false}
use Rattle.std.proofs.lemmas.Grind.{flat_map-append}
use Rattle.std.proofs.lemmas.List.{append-nil, append_assoc}
use Rattle.pt_ast.specs.declared.table.Bound.{Bound}
use Rattle.pt_ast.specs.declared.table.PartBy.{PartBy}
use Rattle.pt_ast.specs.declared.table.PartBy.TheVariants as by
use Rattle.pt_ast.specs.declared.table.PartDef.{PartDef}
use Rattle.pt_ast.specs.Bounds.{is_max, tuple_cmp}
use Rattle.pt_ast.specs.Lists.{entries, is_list_fault, list_fault, repeats, stands_among}
use Rattle.pt_ast.specs.Ranges.{bound_of, bounds_fault, fault_code, is_early_max, is_low, is_range_fault, range_fault}
use Rattle.pt_bounds.proofs.Firsts.{first_none, none_before}
use Rattle.pt_bounds.proofs.Orders.{tuple_cmp_total}
use Rattle.pt_place.specs.Checks.{bad_bounds, of_list_fault, of_range_fault}
use Rattle.pt_complete.proofs.ValidNames.{Each}
use Rattle.pt_actions.proofs.Within.{IsWithin, Empty, Keep, Skip, each_within, flat_within, map_within, none_repeats}

-- ---- ranges: each bound is above all before it, and only the last is MAXVALUE

abbrev Rises : List Bound → List Bound → Type 0
Rises low high = (list_all is_max low ≡ false) × (is_gt (tuple_cmp high low) ≡ true)

abbrev AreRising : List (List Bound) → Type 0
AreRising [] = Unit {0}
AreRising (bound ∷ bounds) = Each (Rises bound) bounds × AreRising bounds

rising_within : {few all : List (List Bound)} → IsWithin few all → AreRising all → AreRising few
rising_within Empty so = tt
rising_within (Keep x rest) so = (each_within (Rises x) rest so.0, rising_within rest so.1)
rising_within (Skip x rest) so = rising_within rest so.1

not_turned : (o : Ordering) → is_gt o ≡ true → is_gt (ordering_reverse o) ≡ false
not_turned Less e = cc
not_turned Equal e = cc
not_turned Greater e = refl

above : (x y z : List Bound) → is_gt (tuple_cmp y x) ≡ true → is_gt (tuple_cmp z y) ≡ true → is_gt (tuple_cmp z x) ≡ true
above x y z first second =
    true_from_ne_false (is_gt (tuple_cmp z x)) (λ below. true≢false (sym first
    ∙ upto tuple_cmp_total y z x (ap is_gt (tuple_cmp_total.antisymm y z) ∙ not_turned (tuple_cmp z y) second) below))

each_above : (x y : List Bound) → Rises x y → (bounds : List (List Bound)) → Each (Rises y) bounds → Each (Rises x) bounds
each_above x y low [] so = tt
each_above x y low (z ∷ bounds) so = ((low.0, above x y z low.1 so.0.1), each_above x y low bounds so.1)

back : (k : ℕ) → k ≡ suc k - 1
back k = omega arith

-- from neighbours alone
rising_from : (bounds : List (List Bound)) → ((k : ℕ) → suc k < length bounds → Rises (get_or bounds k []) (get_or bounds (suc k) [])) → AreRising bounds
rising_from [] so = tt
rising_from (x ∷ []) so = (tt, tt)
rising_from (x ∷ y ∷ bounds) so =
    let rest = rising_from (y ∷ bounds) (λ k within. so (suc k) (omega (arith, within))) in
    let low : Rises x y = so 0 (omega arith) in
    ((low, each_above x y low bounds rest.0), rest)

neighbours : (bounds : List (List Bound)) → AreRising bounds → (k : ℕ) → suc k < length bounds → Rises (get_or bounds k []) (get_or bounds (suc k) [])
neighbours [] so k within = absurd (omega (arith, within))
neighbours (x ∷ []) so k within = absurd (omega (arith, within))
neighbours (x ∷ y ∷ bounds) so zero within = so.0.0
neighbours (x ∷ y ∷ bounds) so (suc k) within = neighbours (y ∷ bounds) so.1 k (omega (arith, within))

unmapped : {A B : Type 0} (f : A → B) (o : Option A) → option_map f o ≡ None → o ≡ None
unmapped f None e = refl
unmapped f (Some x) e = cc

-- no fault, and what it says of neighbours
rising : (bounds : List (List Bound)) → bounds_fault bounds ≡ None → AreRising bounds
rising bounds none = rising_from bounds (λ k within. (lower k within, higher k within))
  where
    fine : (k : ℕ) → k < length bounds → is_range_fault bounds k ≡ false
    fine k within = none_before (is_range_fault bounds) (length bounds) (unmapped (fault_code bounds) (position (is_range_fault bounds) (range_with_len 0 (length bounds))) none) k within

    lower : (k : ℕ) → suc k < length bounds → list_all is_max (get_or bounds k []) ≡ false
    lower k within =
        elim (and_cases (list_all is_max (get_or bounds k [])) (nat_lt (k + 1) (length bounds)) (or_parts (is_early_max bounds k) (is_low bounds k) (fine k (omega (arith, within)))).0) [
          | inl small ↦ small
          | inr last ↦ absurd (true≢false (sym (lt-ltb (k + 1) (length bounds) (omega (arith, within))) ∙ last))
        ]

    higher : (k : ℕ) → suc k < length bounds → is_gt (tuple_cmp (get_or bounds (suc k) []) (get_or bounds k [])) ≡ true
    higher k within =
        elim (and_cases (nat_lt 0 (suc k)) (not (is_gt (tuple_cmp (get_or bounds (suc k) []) (get_or bounds (suc k - 1) [])))) (or_parts (is_early_max bounds (suc k)) (is_low bounds (suc k)) (fine (suc k) within)).1) [
          | inl none ↦ absurd (true≢false (sym (lt-ltb 0 (suc k) (omega arith)) ∙ none))
          | inr raised ↦ ap (λ j. is_gt (tuple_cmp (get_or bounds (suc k) []) (get_or bounds j []))) (back k) ∙ not-false (is_gt (tuple_cmp (get_or bounds (suc k) []) (get_or bounds (suc k - 1) []))) raised
        ]

no_fault : (bounds : List (List Bound)) → AreRising bounds → bounds_fault bounds ≡ None
no_fault bounds so = ap (option_map (fault_code bounds)) (first_none (is_range_fault bounds) (length bounds) (λ k within. or_from (is_early_max bounds k) (is_low bounds k) (early k within) (low k within)))
  where
    early : (k : ℕ) → k < length bounds → is_early_max bounds k ≡ false
    early k within =
        elim (cases_lt (k + 1) (length bounds)) [
          | inl more ↦ and_left (list_all is_max (get_or bounds k [])) (nat_lt (k + 1) (length bounds)) (neighbours bounds so k (omega (arith, more))).0
          | inr last ↦ and_right (list_all is_max (get_or bounds k [])) (nat_lt (k + 1) (length bounds)) (le-ltb (k + 1) (length bounds) last)
        ]

    low : (k : ℕ) → k < length bounds → is_low bounds k ≡ false
    low zero within = and_left (nat_lt 0 0) (not (is_gt (tuple_cmp (get_or bounds zero []) (get_or bounds (zero - 1) [])))) (le-ltb 0 0 (omega arith))
    low (suc k) within =
        and_right (nat_lt 0 (suc k)) (not (is_gt (tuple_cmp (get_or bounds (suc k) []) (get_or bounds (suc k - 1) []))))
        (not_from_true (is_gt (tuple_cmp (get_or bounds (suc k) []) (get_or bounds (suc k - 1) []))) (ap (λ j. is_gt (tuple_cmp (get_or bounds (suc k) []) (get_or bounds j []))) (sym (back k)) ∙ (neighbours bounds so k within).1))

ranges_within : {few all : List PartDef} → IsWithin few all → range_fault all ≡ None → range_fault few ≡ None
ranges_within {few} {all} within none = no_fault (map bound_of few) (rising_within (map_within bound_of within) (rising (map bound_of all) none))

-- ---- lists: no value stands twice among all that there are

or_assoc : (a b c : Bool) → (a || (b || c)) ≡ ((a || b) || c)
or_assoc true b c = refl
or_assoc false b c = refl

repeats-append : (before xs ys : List (List Bound)) → repeats before (xs ++ ys) ≡ (repeats before xs || repeats (before ++ xs) ys)
repeats-append before [] ys = ap (λ l. repeats l ys) (sym (append-nil before))
repeats-append before (x ∷ xs) ys =
    ap (λ b. stands_among before x || b)
    (repeats-append (before ++ x ∷ []) xs ys ∙ ap (λ l. repeats (before ++ x ∷ []) xs || repeats l ys) (append_assoc before (x ∷ []) xs))
    ∙ or_assoc (stands_among before x) (repeats (before ++ x ∷ []) xs) (repeats (before ++ x ∷ xs) ys)

abbrev own_bounds : PartDef → List (List Bound)
own_bounds part = part.bounds

entries_push : (front : List PartDef) (part : PartDef) → entries (front ++ part ∷ []) ≡ entries front ++ part.bounds
entries_push front part = flat_map-append own_bounds front (part ∷ []) ∙ ap (λ l. entries front ++ l) (append-nil part.bounds)

module _ (front : List PartDef) (part : PartDef) (rest : List PartDef) where
  split : repeats (entries front) (entries (part ∷ rest)) ≡ (repeats (entries front) part.bounds || repeats (entries (front ++ part ∷ [])) (entries rest))
  split = repeats-append (entries front) part.bounds (entries rest) ∙ ap (λ l. repeats (entries front) part.bounds || repeats l (entries rest)) (sym (entries_push front part))

  first_at : repeats (entries (front ++ [])) part.bounds ≡ repeats (entries front) part.bounds
  first_at = ap (λ (l : List PartDef). repeats (entries l) part.bounds) (append-nil front)

  later_at : (k : ℕ) → repeats (entries (front ++ part ∷ take k rest)) (get_or (map own_bounds rest) k []) ≡ repeats (entries ((front ++ part ∷ []) ++ take k rest)) (get_or (map own_bounds rest) k [])
  later_at k = ap (λ (l : List PartDef). repeats (entries l) (get_or (map own_bounds rest) k [])) (sym (append_assoc front (part ∷ []) (take k rest)))

apart_from : (front rest : List PartDef) → ((k : ℕ) → k < length rest → repeats (entries (front ++ take k rest)) (get_or (map own_bounds rest) k []) ≡ false) → repeats (entries front) (entries rest) ≡ false
apart_from front [] so = refl
apart_from front (part ∷ rest) so =
    split front part rest
    ∙ or_from _ _ (sym (first_at front part rest) ∙ so 0 (omega arith))
    (apart_from (front ++ part ∷ []) rest (λ k within. sym (later_at front part rest k) ∙ so (suc k) (omega (arith, within))))

apart_at : (front rest : List PartDef) → repeats (entries front) (entries rest) ≡ false → (k : ℕ) → k < length rest → repeats (entries (front ++ take k rest)) (get_or (map own_bounds rest) k []) ≡ false
apart_at front [] none k within = absurd (omega (arith, within))
apart_at front (part ∷ rest) none zero within = first_at front part rest ∙ (or_parts _ _ (sym (split front part rest) ∙ none)).0
apart_at front (part ∷ rest) none (suc k) within =
    later_at front part rest k ∙ apart_at (front ++ part ∷ []) rest (or_parts _ _ (sym (split front part rest) ∙ none)).1 k (omega (arith, within))

lists_within : {few all : List PartDef} → IsWithin few all → list_fault all ≡ None → list_fault few ≡ None
lists_within {few} {all} within none =
    first_none (is_list_fault few) (length few)
    (apart_at [] few (none_repeats Empty (flat_within own_bounds within) (apart_from [] all (none_before (is_list_fault all) (length all) none))))

-- ---- by any kind

ranges_told : (parts : List PartDef) (fault : Option (ℕ × ℕ)) → of_range_fault parts fault ≡ None → fault ≡ None
ranges_told parts (Some fault) e = cc
ranges_told parts None e = refl

lists_told : (parts : List PartDef) (fault : Option ℕ) → of_list_fault parts fault ≡ None → fault ≡ None
lists_told parts (Some fault) e = cc
lists_told parts None e = refl

ranges_none : {few all : List PartDef} → IsWithin few all → of_range_fault all (range_fault all) ≡ None → of_range_fault few (range_fault few) ≡ None
ranges_none {few} {all} within none = ap (of_range_fault few) (ranges_within within (ranges_told all (range_fault all) none))

lists_none : {few all : List PartDef} → IsWithin few all → of_list_fault all (list_fault all) ≡ None → of_list_fault few (list_fault few) ≡ None
lists_none {few} {all} within none = ap (of_list_fault few) (lists_within within (lists_told all (list_fault all) none))

pub bounds_within : (kind : PartBy) {few all : List PartDef} → IsWithin few all → bad_bounds kind all ≡ None → bad_bounds kind few ≡ None
bounds_within by.Whole within none = refl
bounds_within (by.Range expr) within none = ranges_none within none
bounds_within (by.List expr) within none = lists_none within none
bounds_within (by.RangeColumns numbers) within none = ranges_none within none
bounds_within (by.ListColumns numbers) within none = lists_none within none
bounds_within (by.Hash linear expr) within none = refl
bounds_within (by.Key linear numbers) within none = refl
