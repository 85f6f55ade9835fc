-- What a definition has that passes the checks.
use Rattle.std.proofs.Common.{◌≡◌, ℕ, zero, suc, ◌+◌, ◌-◌, ◌*◌, ◌<◌, ◌≤◌, ◌^◌, min, Bool, true, false, cond, not, ◌&&◌, ◌||◌, List, [], ◌∷◌, length, map, get_or, Option, Some, None, Result, Ok, Err, IsOk, ℤ, refl, sym, ap, ◌∙◌, arith, nat_eq, nat_lt, slice_index_or}
use Rattle.std.proofs.Math.Nat.{mul-suc, suc-mul}
use Rattle.std.specs.List.{position}
use Rattle.std.proofs.lemmas.Bool.{not-false, eqb-true, ltb-false, true≢false}
use Rattle.std.proofs.lemmas.List.Quantifiers.{position-Some}
use Rattle.pt_value.specs.declared.value.Value.{Value}
use Rattle.pt_value.specs.declared.value.Value.TheVariants.{Int}
use Rattle.pt_ast.specs.declared.table.PartBy.{PartBy}
use Rattle.pt_ast.specs.declared.table.PartBy.TheVariants as by
use Rattle.pt_ast.specs.declared.table.PartDef.{PartDef}
use Rattle.pt_ast.specs.declared.table.Bound.TheVariants.{Val}
use Rattle.pt_ast.specs.declared.table.Column.{Column}
use Rattle.pt_ast.specs.declared.table.TableDef.{TableDef}
use Rattle.pt_ast.specs.declared.refusal.Refusal.{Refusal}
use Rattle.pt_ast.specs.declared.refusal.Refusal.TheVariants as refusal
use Rattle.pt_ast.specs.Ranges.{is_above, range_part}
use Rattle.pt_expr.specs.declared.kind.ExprKind.{ExprKind}
use Rattle.pt_expr.specs.declared.kind.CheckFault.{CheckFault}
use Rattle.pt_place.specs.Checks.{bad_bounds, is_by_number, is_whole, key_of_none, lacking_key, name_twice, of_finding, of_range_fault, part_names, sub_of_number, too_many}
use Rattle.pt_place.specs.Fitting.{kinds_of}
use Rattle.pt_place.specs.First.{first_in, first_of, in_turn, refused_if}
use Rattle.pt_place.specs.Place.{part_of, subs_at}
use Rattle.pt_place.specs.Placing.{CanFind, CanFindBy, CanNumber, IsCount}
use Rattle.pt_place.specs.Valid.{IsValid, bad_by, bad_items, bad_kinds, bad_parts, bad_values, first_subs, is_without_parts, leaf_count, other_subs}
use Rattle.pt_place.proofs.Firsts.{none_first, none_next, passes}

-- ---- the checks that placing rests on

pub record Passed (table : List ℕ) (def : TableDef) : Type 0 where
  pub level : sub_of_number table def.by def.sub ≡ None
  pub by : bad_by table def.columns def.by ≡ None
  pub sub : bad_by table def.columns def.sub ≡ None
  pub few : too_many (leaf_count def.sub def.parts) ≡ None
  pub some : is_without_parts def.by def.sub def.parts ≡ false
  pub alike : first_in (other_subs def.parts) def.parts ≡ None
  pub bounds : bad_bounds def.by def.parts ≡ None

six : (a b c d e f : Option Refusal) → first_of (a ∷ b ∷ c ∷ d ∷ e ∷ f ∷ []) ≡ None
    → (a ≡ None) × (b ≡ None) × (c ≡ None) × (d ≡ None) × (e ≡ None) × (f ≡ None)
six (Some r) b c d e f h = cc
six None (Some r) c d e f h = cc
six None None (Some r) d e f h = cc
six None None None (Some r) e f h = cc
six None None None None (Some r) f h = cc
six None None None None None (Some r) h = cc
six None None None None None None h = (refl, refl, refl, refl, refl, refl)

kinds_passed : (table : List ℕ) (def : TableDef) → bad_kinds table def ≡ None
    → (sub_of_number table def.by def.sub ≡ None) × (bad_by table def.columns def.by ≡ None) × (bad_by table def.columns def.sub ≡ None)
kinds_passed table def e =
    let all = six (sub_of_number table def.by def.sub) (key_of_none def.by) (key_of_none def.sub) (bad_by table def.columns def.by) (bad_by table def.columns def.sub)
    (lacking_key def.columns def.keys def.by def.sub) e in
    (all.0, all.3, all.4)

parts_passed : (table : List ℕ) (def : TableDef) → bad_parts table def ≡ None
    → (is_without_parts def.by def.sub def.parts ≡ false) × (first_in (other_subs def.parts) def.parts ≡ None) × (bad_bounds def.by def.parts ≡ None) × (too_many (leaf_count def.sub def.parts) ≡ None)
parts_passed table def e =
    let all = six (refused_if (is_without_parts def.by def.sub def.parts) (refusal.NoPartitions table)) (too_many (leaf_count def.sub def.parts)) (first_in (other_subs def.parts) def.parts)
    (first_in (bad_values (kinds_of def.columns def.by) def.by) def.parts) (bad_bounds def.by def.parts) (in_turn name_twice (part_names def.parts)) e in
    (passes _ _ all.0, all.2, all.4, all.1)

pub passed : (def : TableDef) → (valid : IsValid def) → Passed valid.0 def
passed def valid =
    let rest = none_next (bad_items def) (first_of (bad_kinds valid.0 def ∷ bad_parts valid.0 def ∷ [])) valid.1 in
    let kinds = kinds_passed valid.0 def (none_first (bad_kinds valid.0 def) (first_of (bad_parts valid.0 def ∷ [])) rest) in
    let last = none_first (bad_parts valid.0 def) None (none_next (bad_kinds valid.0 def) (first_of (bad_parts valid.0 def ∷ [])) rest) in
    let parts = parts_passed valid.0 def last in
    record { level = kinds.0; by = kinds.1; sub = kinds.2; few = parts.3; some = parts.0; alike = parts.1; bounds = parts.2 }

-- ---- the main level

sound : (table : List ℕ) (names : Bool) (r : Result ExprKind CheckFault) → of_finding table names r ≡ None → IsOk r
sound table names (Ok kind) e = refl
sound table names (Err fault) e = cc

rising : (parts : List PartDef) (r : Option (ℕ × ℕ)) → of_range_fault parts r ≡ None → r ≡ None
rising parts (Some fault) e = cc
rising parts None e = refl

some_parts : (parts : List PartDef) (b : Bool) → (nat_eq (length parts) 0 || b) ≡ false → 0 < length parts
some_parts [] b e = cc
some_parts (part ∷ parts) b e = omega arith

-- ---- how many parts there are

or_true : (a : Bool) → (a || true) ≡ false → ⊥
or_true true e = true≢false e
or_true false e = true≢false e

some_first : (a sub : Bool) (subs : ℕ) → (a || not sub && nat_eq subs 0) ≡ false → sub ≡ false → 0 < subs
some_first a true subs e whole = absurd (true≢false whole)
some_first a false (suc subs) e whole = omega arith
some_first a false zero e whole = absurd (or_true a e)

at_most : (n : ℕ) (r : Refusal) → refused_if (nat_lt 8192 (min n (2 ^ 64 - 1))) r ≡ None → n ≤ 8192
at_most n r e = let within = ltb-false _ _ (passes _ _ e) in omega (arith, within)

left_most : (a b : ℕ) → 0 < b → a * b ≤ 8192 → a ≤ 8192
left_most a zero some most = absurd (omega (arith, some))
left_most a (suc b) some most = omega (arith, most, mul-suc a b)

right_most : (a b : ℕ) → 0 < a → a * b ≤ 8192 → b ≤ 8192
right_most zero b some most = absurd (omega (arith, some))
right_most (suc a) b some most = omega (arith, most, suc-mul a b)

few_parts : (sub : Bool) (n subs : ℕ) → n * cond sub 1 subs ≤ 8192 → (sub ≡ false → 0 < subs) → n ≤ 8192
few_parts true n subs most some = left_most n 1 (omega arith) most
few_parts false n subs most some = left_most n subs (some refl) most

few_leaves : (sub : Bool) (n subs : ℕ) → n * cond sub 1 subs ≤ 8192 → 0 < n → sub ≡ false → subs ≤ 8192
few_leaves true n subs most some whole = absurd (true≢false whole)
few_leaves false n subs most some whole = right_most n subs some most

filled : (parts : List PartDef) → 0 < first_subs parts → 0 < length parts
filled [] some = absurd (omega (arith, some))
filled (part ∷ parts) some = omega arith

subs_some : (table : List ℕ) (def : TableDef) → Passed table def → is_whole def.sub ≡ false → 0 < first_subs def.parts
subs_some table def p whole = some_first (not (is_whole def.by) && nat_eq (length def.parts) 0) (is_whole def.sub) (first_subs def.parts) p.some whole

leaves : (table : List ℕ) (def : TableDef) → Passed table def → length def.parts * cond (is_whole def.sub) 1 (first_subs def.parts) ≤ 8192
leaves table def p = at_most _ _ p.few

parts_most : (table : List ℕ) (def : TableDef) → Passed table def → length def.parts ≤ 8192
parts_most table def p = few_parts (is_whole def.sub) (length def.parts) (first_subs def.parts) (leaves table def p) (subs_some table def p)

-- ---- the main level

can_find_by : (table : List ℕ) (def : TableDef) (main sub : PartBy) → length def.parts ≤ 8192 → bad_by table def.columns main ≡ None → bad_bounds main def.parts ≡ None
    → is_without_parts main sub def.parts ≡ false → CanFindBy def main
can_find_by table def by.Whole sub few e bounds some = tt
can_find_by table def (by.Range expr) sub few e bounds some = (sound _ _ _ e, rising _ _ bounds)
can_find_by table def (by.List expr) sub few e bounds some = sound _ _ _ e
can_find_by table def (by.RangeColumns numbers) sub few e bounds some = rising _ _ bounds
can_find_by table def (by.ListColumns numbers) sub few e bounds some = tt
can_find_by table def (by.Hash linear expr) sub few e bounds some = (sound _ _ _ e, (some_parts _ _ some, omega (arith, few)))
can_find_by table def (by.Key linear numbers) sub few e bounds some = (some_parts _ _ some, omega (arith, few))

pub can_find : (def : TableDef) → IsValid def → CanFind def
can_find def valid =
    let p = passed def valid in
    let few = parts_most valid.0 def p in
    record { by = can_find_by valid.0 def def.by def.sub few p.by p.bounds p.some; few = omega (arith, few) }

-- ---- a partition that is found

range_below : (parts : List PartDef) (number : Option ℤ) (part : ℕ) → range_part parts number ≡ Some part → part < length parts
range_below [] None part e = cc
range_below [] (Some number) part e = cc
range_below (p ∷ ps) None part e = let first : 0 ≡ part = cc in omega arith
range_below (p ∷ ps) (Some number) part e = (position-Some (is_above (map Val (Int number ∷ []))) (p ∷ ps) part p e).0

position_below : (test : PartDef → Bool) (parts : List PartDef) (part : ℕ) → position test parts ≡ Some part → part < length parts
position_below test [] part e = cc
position_below test (p ∷ ps) part e = (position-Some test (p ∷ ps) part p e).0

found_below : (columns : List Column) (main : PartBy) (parts : List PartDef) (cells : List Value) (part : ℕ)
    → 0 < length parts → is_by_number main ≡ false → part_of columns main parts cells ≡ Some part → part < length parts
found_below columns by.Whole parts cells part some number e = let first : 0 ≡ part = cc in omega (arith, first, some)
found_below columns (by.Range expr) parts cells part some number e = range_below parts _ part e
found_below columns (by.List expr) parts cells part some number e = position_below _ parts part e
found_below columns (by.RangeColumns numbers) parts cells part some number e = position_below _ parts part e
found_below columns (by.ListColumns numbers) parts cells part some number e = position_below _ parts part e
found_below columns (by.Hash linear expr) parts cells part some number e = cc
found_below columns (by.Key linear numbers) parts cells part some number e = cc

-- ---- its subpartitions

alike_at : (all parts : List PartDef) (i : ℕ) → first_in (other_subs all) parts ≡ None → i < length parts → length (subs_at parts i) ≡ first_subs all
alike_at all [] i e within = absurd (omega (arith, within))
alike_at all (p ∷ ps) zero e within = eqb-true _ _ (not-false _ (passes _ _ (none_first _ _ e)))
alike_at all (p ∷ ps) (suc i) e within = alike_at all ps i (none_next _ _ e) (omega (arith, within))

no_level : (number whole : Bool) → (number && not whole) ≡ false → whole ≡ false → number ≡ false
no_level true true e other = cc
no_level true false e other = cc
no_level false whole e other = refl

some_subs : (table : List ℕ) (def : TableDef) (p : Passed table def) (cells : List Value) (part : ℕ)
    → part_of def.columns def.by def.parts cells ≡ Some part → is_whole def.sub ≡ false → IsCount (length (subs_at def.parts part))
some_subs table def p cells part found sub =
    let number = no_level (is_by_number def.by) (is_whole def.sub) (passes _ _ p.level) sub in
    let subs = subs_some table def p sub in
    let some = filled def.parts subs in
    let below = found_below def.columns def.by def.parts cells part some number found in
    let alike = alike_at def.parts def.parts part p.alike below in
    let few = few_leaves (is_whole def.sub) (length def.parts) (first_subs def.parts) (leaves table def p) some sub in
    (omega (arith, alike, subs), omega (arith, alike, few))

can_number : (table : List ℕ) (columns : List Column) (sub : PartBy) (count : ℕ) → bad_by table columns sub ≡ None → (is_whole sub ≡ false → IsCount count) → CanNumber columns sub count
can_number table columns by.Whole count e some = tt
can_number table columns (by.Range expr) count e some = tt
can_number table columns (by.List expr) count e some = tt
can_number table columns (by.RangeColumns numbers) count e some = tt
can_number table columns (by.ListColumns numbers) count e some = tt
can_number table columns (by.Hash linear expr) count e some = (sound _ _ _ e, some refl)
can_number table columns (by.Key linear numbers) count e some = some refl

pub can_sub : (def : TableDef) (cells : List Value) (part : ℕ) → IsValid def
    → part_of def.columns def.by def.parts cells ≡ Some part → CanNumber def.columns def.sub (length (subs_at def.parts part))
can_sub def cells part valid found =
    let p = passed def valid in
    can_number valid.0 def.columns def.sub (length (subs_at def.parts part)) p.sub (some_subs valid.0 def p cells part found)
