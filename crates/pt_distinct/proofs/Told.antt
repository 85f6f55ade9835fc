-- The first partition with a value that stands already, tuple by tuple and list by list.
use Rattle.std.proofs.Common.{◌≡◌, ℕ, ◌+◌, ◌<◌, Bool, true, false, cond, not, List, [], ◌∷◌, ◌++◌, length, take, drop, get_or, refl, sym, ap, ◌∙◌, arith, append_assoc, inl, inr}
use Rattle.std.specs.Ordering.{is_eq}
use Rattle.std.proofs.lemmas.Bool.{cases_lt, true≢false}
use Rattle.std.proofs.lemmas.List.{append-nil, get_or-map, take_more}
use Rattle.std.proofs.lemmas.Grind.{flat_map-append}
use Rattle.pt_ast.specs.declared.table.Bound.{Bound}
use Rattle.pt_ast.specs.declared.table.PartDef.{PartDef}
use Rattle.pt_ast.specs.Bounds.{tuple_cmp}
use Rattle.pt_ast.specs.Lists.{entries, repeats, stands_among}
use Rattle.pt_bounds.proofs.Standing.{or_second, repeats-more}
use Rattle.pt_place.specs.Checks.{part_name_at}
use Rattle.pt_distinct.specs.Tuples.{AreTuples}
use Rattle.pt_distinct.proofs.Added.{tuple_added}

pub name_at : (parts : List PartDef) (i : ℕ) (part : PartDef) → i < length parts → part_name_at parts i ≡ (get_or parts i part).name
name_at parts i part within = get_or-map (λ (p : PartDef). p.name) parts i part [] within

-- ---- one tuple more

fresh : (stood added : Bool) → added ≡ not stood → added ≡ true → stood ≡ false
fresh false added e f = refl
fresh true added e f = absurd (true≢false (sym f ∙ e))

one_more : (before tuples : List (List Bound)) (i : ℕ) (item : List Bound) → i < length tuples → item ≡ get_or tuples i item
    → (before ++ take i tuples) ++ item ∷ [] ≡ before ++ take (i + 1) tuples
one_more before tuples i item within is =
    append_assoc before (take i tuples) (item ∷ [])
    ∙ ap (λ (l : List (List Bound)). before ++ l) (ap (λ (t : List Bound). take i tuples ++ t ∷ []) is ∙ sym (take_more tuples i item within))

pub tuple_seen : (before tuples : List (List Bound)) (i : ℕ) (item own : List Bound) (old new : List Bound → Bool) (added : Bool)
    → i < length tuples → item ≡ get_or tuples i item → own ≡ item → AreTuples old (before ++ take i tuples)
    → ((tuple : List Bound) → new tuple ≡ cond (is_eq (tuple_cmp own tuple)) true (old tuple)) → added ≡ not (old own) → added ≡ true
    → repeats before tuples ≡ repeats (before ++ take i tuples) (drop i tuples)
    → AreTuples new (before ++ take (i + 1) tuples) × (repeats before tuples ≡ repeats (before ++ take (i + 1) tuples) (drop (i + 1) tuples))
tuple_seen before tuples i item own old new added within is same seen has was news so_far = (
  λ tuple. tuple_added tuple own (before ++ take i tuples) (old tuple) (new tuple) (seen tuple) (has tuple)
      ∙ ap (λ (t : List Bound). stands_among ((before ++ take i tuples) ++ t ∷ []) tuple) same
      ∙ ap (λ (l : List (List Bound)). stands_among l tuple) (one_more before tuples i item within is),
  so_far ∙ repeats-more before tuples i item within is
      ∙ or_second (stands_among (before ++ take i tuples) item) (repeats (before ++ take (i + 1) tuples) (drop (i + 1) tuples))
      (ap (stands_among (before ++ take i tuples)) (sym same) ∙ sym (seen own) ∙ fresh (old own) added was news),
)

-- ---- one list more

pub entries_more : (parts : List PartDef) (i : ℕ) (part : PartDef) (tuples : List (List Bound)) → i < length parts → tuples ≡ (get_or parts i part).bounds
    → entries (take i parts) ++ tuples ≡ entries (take (i + 1) parts)
entries_more parts i part tuples within is =
    let own = get_or parts i part in
    ap (λ (l : List (List Bound)). entries (take i parts) ++ l) (is ∙ sym (append-nil own.bounds))
    ∙ sym (flat_map-append (λ (p : PartDef). p.bounds) (take i parts) (own ∷ []))
    ∙ ap entries (sym (take_more parts i part within))

pub below_more : (test : ℕ → Bool) (i : ℕ) → ((k : ℕ) → k < i → test k ≡ false) → test i ≡ false → (k : ℕ) → k < i + 1 → test k ≡ false
below_more test i below here k within =
    elim (cases_lt k i) [
      | inl less ↦ below k less
      | inr more ↦ ap test (omega (arith, within, more)) ∙ here
    ]
