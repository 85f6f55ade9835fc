-- Bounds without a fault rise, so a search by halves finds the first that is above.
use Rattle.std.proofs.Common.{◌≡◌, ℕ, zero, suc, ◌+◌, ◌-◌, ◌<◌, Bool, true, false, not, ◌||◌, nat_lt, List, [], map, length, get_or, refl, sym, ap, ◌∙◌, arith, inl, inr, if◌then◌else◌, Option, Some, None}
use Rattle.std.specs.declared.cmp.Ordering.{Ordering}
use Rattle.std.specs.declared.cmp.Ordering.TheVariants.{Less, Equal, Greater}
use Rattle.std.specs.Ordering.{is_gt, ordering_reverse}
use Rattle.std.specs.Option.{option_map}
use Rattle.std.specs.List.Sorted.{IsPartitionedBy}
use Rattle.std.specs.Cmp.{upto, tied_itself}
use Rattle.std.proofs.lemmas.Bool.{not-true, not-false, and_cases, lt-ltb, true≢false}
use Rattle.std.proofs.lemmas.List.{get_or-map, length-map}
use Rattle.pt_ast.specs.declared.table.Bound.{Bound}
use Rattle.pt_ast.specs.declared.table.PartDef.{PartDef}
use Rattle.pt_ast.specs.Bounds.{tuple_cmp}
use Rattle.pt_ast.specs.Ranges.{bound_of, is_above, is_early_max, is_low, is_range_fault, fault_code, bounds_fault, range_fault}
use Rattle.pt_bounds.proofs.Firsts.{first_at, first_none, none_before}
use Rattle.pt_bounds.proofs.Orders.{tuple_cmp_total}

unmapped : {A B : Type 0} (f : A → B) (o : Option A) → option_map f o ≡ None → o ≡ None
unmapped f None e = refl
unmapped f (Some x) e = cc

or_right : (a b : Bool) → (a || b) ≡ false → b ≡ false
or_right true b e = absurd (true≢false e)
or_right false b e = e

not_turned : (o : Ordering) → is_gt o ≡ true → is_gt (ordering_reverse o) ≡ false
not_turned Less e = cc
not_turned Equal e = cc
not_turned Greater e = refl

-- each bound isn't above the next
neighbours : (bounds : List (List Bound)) → bounds_fault bounds ≡ None → (k : ℕ) → suc k < length bounds → is_gt (tuple_cmp (get_or bounds k []) (get_or bounds (suc k) [])) ≡ false
neighbours bounds none k within =
    let fine = none_before (is_range_fault bounds) (length bounds) (unmapped (fault_code bounds) _ none) (suc k) within in
    let low : is_low bounds (suc k) ≡ false = or_right (is_early_max bounds (suc k)) (is_low bounds (suc k)) fine in
    elim (and_cases (nat_lt 0 (suc k)) _ low) [
      | inl no_bound ↦ absurd (true≢false (sym (lt-ltb 0 (suc k) (omega arith)) ∙ no_bound))
      | inr raised ↦
          let gt : is_gt (tuple_cmp (get_or bounds (suc k) []) (get_or bounds (suc k - 1) [])) ≡ true = not-false _ raised in
          let gt' : is_gt (tuple_cmp (get_or bounds (suc k) []) (get_or bounds k [])) ≡ true = ap (λ j. is_gt (tuple_cmp (get_or bounds (suc k) []) (get_or bounds j []))) (omega arith) ∙ gt in
          ap is_gt (tuple_cmp_total.antisymm (get_or bounds k []) (get_or bounds (suc k) [])) ∙ not_turned _ gt'
    ]

rises : (bounds : List (List Bound)) → bounds_fault bounds ≡ None → (m i : ℕ) → i + m < length bounds → is_gt (tuple_cmp (get_or bounds i []) (get_or bounds (i + m) [])) ≡ false
rises bounds none zero i within = ap is_gt (ap (λ k. tuple_cmp (get_or bounds i []) (get_or bounds k [])) (omega arith) ∙ tied_itself tuple_cmp_total (get_or bounds i []))
rises bounds none (suc m) i within =
    ap (λ k. is_gt (tuple_cmp (get_or bounds i []) (get_or bounds k []))) (omega arith)
    ∙ upto tuple_cmp_total (get_or bounds i []) (get_or bounds (i + m) []) (get_or bounds (suc (i + m)) []) (rises bounds none m i (omega (arith, within))) (neighbours bounds none (i + m) (omega (arith, within)))

pub parted : (parts : List PartDef) (tuple : List Bound) → range_fault parts ≡ None → IsPartitionedBy (λ part. not (is_above tuple part)) parts
parted parts tuple none i j d before within fails =
    let bounds = map bound_of parts in
    let len : length bounds ≡ length parts = length-map parts bound_of in
    let low : get_or bounds i [] ≡ bound_of (get_or parts i d) = get_or-map bound_of parts i d [] (omega (arith, before, within)) in
    let high : get_or bounds j [] ≡ bound_of (get_or parts j d) = get_or-map bound_of parts j d [] within in
    let up = rises bounds none (j - i) i (omega (arith, before, within, len)) in
    let up' : is_gt (tuple_cmp (bound_of (get_or parts i d)) (bound_of (get_or parts j d))) ≡ false =
    sym (ap (λ b. is_gt (tuple_cmp b (bound_of (get_or parts j d)))) low) ∙ sym (ap (λ b. is_gt (tuple_cmp (get_or bounds i []) b)) high)
    ∙ ap (λ k. is_gt (tuple_cmp (get_or bounds i []) (get_or bounds k []))) (omega (arith, before)) ∙ up in
    ap not (upto tuple_cmp_total (bound_of (get_or parts i d)) (bound_of (get_or parts j d)) tuple up' (not-true _ fails))

-- the first fault, of either kind
pub early_max_found : (parts : List PartDef) (i : ℕ) → i < length parts → ((k : ℕ) → k < i → is_range_fault (map bound_of parts) k ≡ false)
    → is_early_max (map bound_of parts) i ≡ true → range_fault parts ≡ Some (i, 31)
early_max_found parts i within before early =
    let bounds = map bound_of parts in
    ap (option_map (fault_code bounds)) (first_at (is_range_fault bounds) (length bounds) i (omega (arith, within, length-map parts bound_of)) before (ap (λ b. b || is_low bounds i) early))
    ∙ ap (λ b. Some (i, if b then 31 else 30)) early

pub low_found : (parts : List PartDef) (i : ℕ) → i < length parts → ((k : ℕ) → k < i → is_range_fault (map bound_of parts) k ≡ false)
    → is_early_max (map bound_of parts) i ≡ false → is_low (map bound_of parts) i ≡ true → range_fault parts ≡ Some (i, 30)
low_found parts i within before early low =
    let bounds = map bound_of parts in
    ap (option_map (fault_code bounds)) (first_at (is_range_fault bounds) (length bounds) i (omega (arith, within, length-map parts bound_of)) before (ap (λ b. b || is_low bounds i) early ∙ low))
    ∙ ap (λ b. Some (i, if b then 31 else 30)) early

pub no_fault : (parts : List PartDef) → ((k : ℕ) → k < length parts → is_range_fault (map bound_of parts) k ≡ false) → range_fault parts ≡ None
no_fault parts before =
    let bounds = map bound_of parts in
    ap (option_map (fault_code bounds)) (first_none (is_range_fault bounds) (length bounds) (λ k less. before k (omega (arith, less, length-map parts bound_of))))
