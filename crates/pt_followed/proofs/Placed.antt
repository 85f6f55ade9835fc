-- Where tuples of the sets are placed.
use Rattle.std.proofs.Common.{◌≡◌, ◌↔◌, inl, inr, ℕ, zero, suc, ◌<◌, arith, Bool, true, false, List, [], ◌∷◌, length, get_or, map, Option, Some, None, ℤ, refl, sym, ap, ◌∙◌}
use Rattle.std.specs.Prelude.{not}
use Rattle.std.specs.Cmp.{tied_itself}
use Rattle.std.specs.List.{list_any}
use Rattle.std.specs.Ordering.{is_eq, is_gt, ordering_then}
use Rattle.std.proofs.lemmas.Bool.{and_from, and_parts, false_from_ne_true, false≢true, not-true, or_cases, or_left, or_right}
use Rattle.std.proofs.lemmas.List.{get_or-map}
use Rattle.std.proofs.lemmas.List.Quantifiers.{position-Some}
use Rattle.pt_value.specs.declared.value.Value.{Value}
use Rattle.pt_value.specs.declared.value.Value.TheVariants.{Null, Int, Day, Bytes}
use Rattle.pt_value.specs.declared.value.Kind.{Kind}
use Rattle.pt_value.specs.declared.value.Kind.TheVariants as kind
use Rattle.pt_ast.specs.declared.tree.Cond.{Cond}
use Rattle.pt_ast.specs.declared.table.Bound.{Bound}
use Rattle.pt_ast.specs.declared.table.Bound.TheVariants.{Val, Max}
use Rattle.pt_ast.specs.declared.table.Column.{Column}
use Rattle.pt_ast.specs.declared.table.PartDef.{PartDef}
use Rattle.pt_ast.specs.Bounds.{cells_at, tuple_cmp, value_of}
use Rattle.pt_ast.specs.Lists.{has_tuple, list_fault, list_part}
use Rattle.pt_ast.specs.Ranges.{bound_of, is_above, range_columns_part, range_fault, range_part}
use Rattle.pt_bounds.proofs.Once.{once}
use Rattle.pt_bounds.proofs.Orders.{tuple_cmp-Equal, tuple_cmp_total}
use Rattle.pt_bounds.proofs.Rising.{parted}
use Rattle.pt_expr.specs.Found.{column_found, kind_of}
use Rattle.pt_place.specs.Checks.{is_integer}
use Rattle.pt_place.specs.Place.{number_in}
use Rattle.pt_interval.specs.Counting.{AreAll}
use Rattle.pt_reach.specs.declared.domain.Domain.{Domain}
use Rattle.pt_reach.specs.Domains.{has_in}
use Rattle.pt_reach.specs.Kept.{IsLeft, IsOfKind, IsReached}
use Rattle.pt_reach.proofs.Orders.{number_null}
use Rattle.pt_followed.specs.Steps.{IsNumberBound, AreItems, AreSetsOf, IsListed, IsMet, bound_before, has_entry, is_below, is_from, is_listed}
use Rattle.pt_followed.proofs.Counting.{first_place}
use Rattle.pt_followed.proofs.Edges.{tie_told}
use Rattle.pt_followed.proofs.Rows.{AreApart, AreWithin, items_of, row_of}

-- ---- a range

module _ (parts : List PartDef) (vs : List Value) (d : PartDef) where
  below_at : (i : ℕ) → i < length parts → is_below (Some (get_or (map bound_of parts) i [])) vs ≡ is_above (map Val vs) (get_or parts i d)
  below_at i within = ap (λ (b : List Bound). is_gt (tuple_cmp b (map Val vs))) (get_or-map bound_of parts i d [] within)

  before_told : (i : ℕ) → i < length parts → ((k : ℕ) → k < i → is_above (map Val vs) (get_or parts k d) ≡ false) → is_from (bound_before (map bound_of parts) i) vs ≡ true
  before_told zero within before = refl
  before_told (suc k) within before =
      ap not (below_at k (omega (arith, within)) ∙ before k (omega arith))

  before_read : range_fault parts ≡ None → (i : ℕ) → i < length parts → is_from (bound_before (map bound_of parts) i) vs ≡ true → (k : ℕ) → k < i → is_above (map Val vs) (get_or parts k d) ≡ false
  before_read none zero within from k less = absurd (omega (arith, less))
  before_read none (suc m) within from k less =
      not-true (is_above (map Val vs) (get_or parts k d))
      (parted parts (map Val vs) none k m d (omega (arith, less)) (omega (arith, within)) (ap not (sym (below_at m (omega (arith, within)))) ∙ from))

pub placed_met : (parts : List PartDef) (vs : List Value) (i : ℕ) → range_columns_part parts vs ≡ Some i → i < length parts
    → (is_from (bound_before (map bound_of parts) i) vs ≡ true) × (is_below (Some (get_or (map bound_of parts) i [])) vs ≡ true)
placed_met [] vs i e within = absurd (omega (arith, within))
placed_met (p ∷ ps) vs i e within =
    let found = position-Some (is_above (map Val vs)) (p ∷ ps) i p e in
    (before_told (p ∷ ps) vs p i within found.2, below_at (p ∷ ps) vs p i within ∙ found.1)

pub met_placed : (parts : List PartDef) (vs : List Value) (i : ℕ) → range_fault parts ≡ None → i < length parts → is_from (bound_before (map bound_of parts) i) vs ≡ true
    → is_below (Some (get_or (map bound_of parts) i [])) vs ≡ true → range_columns_part parts vs ≡ Some i
met_placed [] vs i none within from below = absurd (omega (arith, within))
met_placed (p ∷ ps) vs i none within from below =
    first_place (is_above (map Val vs)) (p ∷ ps) i p within (before_read (p ∷ ps) vs p none i within from) (sym (below_at (p ∷ ps) vs p i within) ∙ below)

-- ---- a list

entry_tuple : (sets : List Domain) (entry : List Bound) → has_entry sets entry ≡ true → (vs : List Value) × AreItems sets vs × (entry ≡ map Val vs)
entry_tuple [] [] e = ([], tt, refl)
entry_tuple [] (item ∷ items) e = absurd (false≢true e)
entry_tuple (set ∷ sets) [] e = absurd (false≢true e)
entry_tuple (set ∷ sets) (Val v ∷ items) e =
    let both = and_parts (has_in set v) (has_entry sets items) e in
    let rest = entry_tuple sets items both.1 in
    (v ∷ rest.0, (both.0, rest.1), ap (λ (bs : List Bound). Val v ∷ bs) rest.2)
entry_tuple (set ∷ sets) (Max ∷ items) e = absurd (false≢true e)

tuple_entry : (sets : List Domain) (vs : List Value) → AreItems sets vs → has_entry sets (map Val vs) ≡ true
tuple_entry [] [] are = refl
tuple_entry [] (v ∷ vs) are = absurd are
tuple_entry (set ∷ sets) [] are = absurd are
tuple_entry (set ∷ sets) (v ∷ vs) are = and_from (has_in set v) (has_entry sets (map Val vs)) are.0 (tuple_entry sets vs are.1)

any_found : {X : Type 0} (test : X → Bool) (xs : List X) → list_any test xs ≡ true → (x : X) × (test x ≡ true) × ((other : X → Bool) → other x ≡ true → list_any other xs ≡ true)
any_found {X} test [] e = absurd (false≢true e)
any_found {X} test (x ∷ xs) e = elim (or_cases (test x) (list_any test xs) e) [
  | inl h ↦ (x, h, λ other passes. or_left (other x) (list_any other xs) passes)
  | inr h ↦ let rest = any_found test xs h in (rest.0, rest.1, λ other passes. or_right (other x) (list_any other xs) (rest.2 other passes))
]

pub listed_placed : (sets : List Domain) (parts : List PartDef) (i : ℕ) → list_fault parts ≡ None → i < length parts → IsListed sets parts i → (vs : List Value) × AreItems sets vs × (list_part parts vs ≡ Some i)
listed_placed sets [] i none within listed = absurd (omega (arith, within))
listed_placed sets (p ∷ ps) i none within listed =
    let found = any_found (has_entry sets) (get_or (p ∷ ps) i p).bounds (sym (get_or-map (is_listed sets) (p ∷ ps) i p false within) ∙ listed) in
    let tuple = entry_tuple sets found.0 found.1 in
    let passes : has_tuple (map Val tuple.0) (get_or (p ∷ ps) i p) ≡ true =
    found.2 (λ other. is_eq (tuple_cmp other (map Val tuple.0))) (ap (λ (b : List Bound). is_eq (tuple_cmp b (map Val tuple.0))) tuple.2 ∙ ap is_eq (tied_itself tuple_cmp_total (map Val tuple.0))) in (
      tuple.0,
      tuple.1,
      first_place (has_tuple (map Val tuple.0)) (p ∷ ps) i p within
          (λ k less. false_from_ne_true (has_tuple (map Val tuple.0) (get_or (p ∷ ps) k p)) (λ there. once (p ∷ ps) (map Val tuple.0) k i p none less within there passes)) passes,
    )

pub placed_listed : (sets : List Domain) (parts : List PartDef) (i : ℕ) (vs : List Value) → i < length parts → AreItems sets vs → list_part parts vs ≡ Some i → IsListed sets parts i
placed_listed sets [] i vs within are e = absurd (omega (arith, within))
placed_listed sets (p ∷ ps) i vs within are e =
    let here = (position-Some (has_tuple (map Val vs)) (p ∷ ps) i p e).1 in
    let found = any_found (λ other. is_eq (tuple_cmp other (map Val vs))) (get_or (p ∷ ps) i p).bounds here in
    let same : found.0 ≡ map Val vs = tuple_cmp-Equal found.0 (map Val vs) (tie_told (tuple_cmp found.0 (map Val vs)) found.1) in
    get_or-map (is_listed sets) (p ∷ ps) i p false within ∙ found.2 (has_entry sets) (ap (has_entry sets) same ∙ tuple_entry sets vs are)

-- ---- rows that are left

pub placed_alike : (columns : List Column) (at : ℕ) (cond : Option Cond) (placed other : List Value → Option ℕ) (i : ℕ) → ((cells : List Value) → IsLeft columns at cond cells → other cells ≡ placed cells)
    → IsReached columns at cond placed i ↔ IsReached columns at cond other i
placed_alike columns at cond placed other i same = (
  (λ h. (h.0, h.1, same h.0 h.1 ∙ h.2)),
  (λ h. (h.0, h.1, sym (same h.0 h.1) ∙ h.2)),
)

module _ (columns : List Column) (at : ℕ) (cond : Option Cond) (others : List ℕ) (sets : List Domain) (parts : List PartDef) (within : AreWithin columns (at ∷ others)) (apart : AreApart (at ∷ others))
    (are : AreSetsOf columns at cond (at ∷ others) sets) where
  pub range_met : range_fault parts ≡ None → (i : ℕ) → i < length parts → IsMet sets (map bound_of parts) i ↔ IsReached columns at cond (λ cells. range_columns_part parts (cells_at cells (at ∷ others))) i
  range_met none i inside = (to, back)
    where
      to : IsMet sets (map bound_of parts) i → IsReached columns at cond (λ cells. range_columns_part parts (cells_at cells (at ∷ others))) i
      to (vs, items, from, below) =
          let row = row_of columns at cond others sets vs within apart are items in
          (row.0, row.1, ap (range_columns_part parts) row.2 ∙ met_placed parts vs i none inside from below)

      back : IsReached columns at cond (λ cells. range_columns_part parts (cells_at cells (at ∷ others))) i → IsMet sets (map bound_of parts) i
      back (cells, left, e) =
          let both = placed_met parts (cells_at cells (at ∷ others)) i e inside in
          (cells_at cells (at ∷ others), items_of columns at cond (at ∷ others) sets cells within are left, both.0, both.1)

  pub list_listed : list_fault parts ≡ None → (i : ℕ) → i < length parts → IsListed sets parts i ↔ IsReached columns at cond (λ cells. list_part parts (cells_at cells (at ∷ others))) i
  list_listed none i inside = (to, back)
    where
      to : IsListed sets parts i → IsReached columns at cond (λ cells. list_part parts (cells_at cells (at ∷ others))) i
      to listed =
          let tuple = listed_placed sets parts i none inside listed in
          let row = row_of columns at cond others sets tuple.0 within apart are tuple.1 in
          (row.0, row.1, ap (list_part parts) row.2 ∙ tuple.2)

      back : IsReached columns at cond (λ cells. list_part parts (cells_at cells (at ∷ others))) i → IsListed sets parts i
      back (cells, left, e) = placed_listed sets parts i (cells_at cells (at ∷ others)) inside (items_of columns at cond (at ∷ others) sets cells within are left) e

-- ---- NULL and numbers

-- a value of a column of integers is NULL or a number
pub integer_value : (k : Kind) (v : Value) → is_integer (kind_of (column_found k).shape) ≡ true → IsOfKind k v → value_of (number_in v) ≡ v
integer_value k Null whole is = refl
integer_value k (Int n) whole is = refl
integer_value kind.Int (Day day) whole is = absurd is
integer_value kind.BigInt (Day day) whole is = absurd is
integer_value kind.Date (Day day) whole is = absurd (false≢true whole)
integer_value (kind.Binary most) (Day day) whole is = absurd is
integer_value kind.Int (Bytes bytes) whole is = absurd is
integer_value kind.BigInt (Bytes bytes) whole is = absurd is
integer_value kind.Date (Bytes bytes) whole is = absurd is
integer_value (kind.Binary most) (Bytes bytes) whole is = absurd (false≢true whole)

above_null : (bound : List Bound) → IsNumberBound bound → is_gt (tuple_cmp bound (Val Null ∷ [])) ≡ true
above_null [] is = absurd is
above_null (Val Null ∷ items) is = absurd is
above_null (Val (Int n) ∷ []) is = ap (λ o. is_gt (ordering_then o (tuple_cmp [] []))) (number_null n)
above_null (Val (Int n) ∷ item ∷ items) is = absurd is
above_null (Val (Day day) ∷ items) is = absurd is
above_null (Val (Bytes bytes) ∷ items) is = absurd is
above_null (Max ∷ []) is = refl
above_null (Max ∷ item ∷ items) is = absurd is

-- so NULL belongs to the first part by its bound too
pub number_placed : (parts : List PartDef) (number : Option ℤ) → AreAll (λ (part : PartDef). IsNumberBound (bound_of part)) parts → range_part parts number ≡ range_columns_part parts (value_of number ∷ [])
number_placed [] None are = refl
number_placed [] (Some n) are = refl
number_placed (p ∷ ps) None are = sym (first_place (is_above (Val Null ∷ [])) (p ∷ ps) 0 p (omega arith) (λ k less. absurd (omega (arith, less))) (above_null (bound_of p) are.0))
number_placed (p ∷ ps) (Some n) are = refl
