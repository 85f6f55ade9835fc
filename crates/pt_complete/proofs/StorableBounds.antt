-- Bounds and values of a text that passes its checks are short, and as many as they have to be.
use Rattle.std.proofs.Common.{◌≡◌, ℕ, zero, suc, ℤ, Bool, true, false, ◌==◌, List, [], ◌∷◌, map, length, Option, Some, None, Result, Ok, Err, refl, sym, ap, subst, ◌∙◌, arith, All}
use Rattle.std.specs.Prelude.{IfSome, fold, pos, slice_index_or}
use Rattle.std.specs.List.{list_any}
use Rattle.std.specs.Option.{option_map_or}
use Rattle.std.proofs.lemmas.List.{length-map}
use Rattle.std.proofs.lemmas.List.Elements.{All-cons, All-head, All-nil, All-tail}
use Rattle.pt_value.specs.declared.value.Value.{Value}
use Rattle.pt_value.specs.declared.value.Value.TheVariants as value
use Rattle.pt_value.specs.declared.value.Kind.{Kind}
use Rattle.pt_value.specs.declared.value.Kind.TheVariants as kind
use Rattle.pt_value.specs.Text.{day_of}
use Rattle.pt_ast.specs.declared.tree.Op.{Op}
use Rattle.pt_ast.specs.declared.tree.Func.{Func}
use Rattle.pt_ast.specs.declared.tree.Func.TheVariants as func
use Rattle.pt_ast.specs.declared.tree.Expr.{Expr, every_here-Expr, fold_out-Expr, map-Expr, out-Expr}
use Rattle.pt_ast.specs.declared.tree.Expr.TheOpen.{Expr-F}
use Rattle.pt_ast.specs.declared.written.BoundSpec.{BoundSpec}
use Rattle.pt_ast.specs.declared.written.BoundSpec.TheVariants as written
use Rattle.pt_ast.specs.declared.written.Entry.{Entry}
use Rattle.pt_ast.specs.declared.written.Entry.TheVariants as entry
use Rattle.pt_ast.specs.declared.written.ValuesSpec.{ValuesSpec}
use Rattle.pt_ast.specs.declared.written.ValuesSpec.TheVariants as values
use Rattle.pt_ast.specs.declared.table.Bound.{Bound}
use Rattle.pt_ast.specs.declared.table.Column.{Column}
use Rattle.pt_ast.specs.declared.table.PartBy.{PartBy}
use Rattle.pt_ast.specs.declared.table.PartBy.TheVariants as by
use Rattle.pt_ast.specs.Storable.{HasAtLeast}
use Rattle.pt_ast.specs.StorableExpr.{IsStorableExpr, IsStorableNode}
use Rattle.pt_ast.specs.StorableSpec.{IsStorableBound, IsStorableEntry, IsStorableValues}
use Rattle.pt_ast.specs.StorableDef.{AreBoundsOf, IsShortBound, IsShortValue, IsStorableTuple}
use Rattle.pt_expr.specs.declared.kind.ExprKind.{ExprKind}
use Rattle.pt_expr.specs.declared.kind.ExprKind.TheVariants as expr
use Rattle.pt_expr.specs.declared.kind.CheckFault.{CheckFault}
use Rattle.pt_expr.specs.Found.{Finding, after, finding, finding_step, kind_finding, other, text_shape}
use Rattle.pt_expr.specs.Values.{call, day_or_null, on_day, on_number, on_numbers, as_day, plus, times, value, value_step, wanted}
use Rattle.pt_place.specs.Checks.{is_range, is_too_long, is_whole}
use Rattle.pt_place.specs.Fitting.{kind_at, kinds_of}
use Rattle.pt_place.proofs.Firsts.{none_first, none_next, passes}
use Rattle.pt_written.specs.Complete.{bad_tuples, has_kind, is_wrong_written, item_finding}
use Rattle.pt_written.specs.WrittenParts.{bound_of, bounds_of, entry_items, is_date, list_tuples, no_tuples, range_tuples, tuple_of, tuples_in, worth}
use Rattle.pt_complete.proofs.Kept.{first_false, not_false, second_false}
use Rattle.pt_complete.proofs.Sound.{sound_tuples}
use Rattle.pt_complete.proofs.StorableColumns.{IsLimited}
use Rattle.pt_complete.specs.Making.{AreConstants, IsConstant, IsConstantExpr, IsConstantFinding}

-- ---- numbers and days have no bytes

abbrev pub HasNoBytes : Value → Type 0
HasNoBytes (value.Bytes bytes) = ⊥
HasNoBytes _ = Unit {0}

pub number_none : (f : ℤ → ℤ) (v : Value) → HasNoBytes (on_number f v)
number_none f value.Null = tt
number_none f (value.Int n) = tt
number_none f (value.Day day) = tt
number_none f (value.Bytes bytes) = tt

pub numbers_none : (f : ℤ → ℤ → ℤ) (v w : Value) → HasNoBytes (on_numbers f v w)
numbers_none f value.Null w = tt
numbers_none f (value.Int n) value.Null = tt
numbers_none f (value.Int n) (value.Int m) = tt
numbers_none f (value.Int n) (value.Day day) = tt
numbers_none f (value.Int n) (value.Bytes bytes) = tt
numbers_none f (value.Day day) w = tt
numbers_none f (value.Bytes bytes) w = tt

pub day_none : (f : ℤ → ℤ) (v : Value) → HasNoBytes (on_day f v)
day_none f value.Null = tt
day_none f (value.Int n) = tt
day_none f (value.Day day) = tt
day_none f (value.Bytes bytes) = tt

pub date_none : (o : Option ℤ) → HasNoBytes (day_or_null o)
date_none (Some day) = tt
date_none None = tt

pub call_none : (f : Func) (v : Value) → HasNoBytes (call f v)
call_none func.Abs v = number_none _ v
call_none func.Year v = day_none _ (as_day v)
call_none func.Month v = day_none _ (as_day v)
call_none func.DayOfMonth v = day_none _ (as_day v)
call_none func.DayOfYear v = day_none _ (as_day v)
call_none func.DayOfWeek v = day_none _ (as_day v)
call_none func.Weekday v = day_none _ (as_day v)
call_none func.Quarter v = day_none _ (as_day v)
call_none func.ToDays v = day_none _ (as_day v)

pub sum_none : (v : Value) → HasNoBytes v → (parts : List (Bool × Value)) → HasNoBytes (fold plus v parts)
sum_none v none [] = none
sum_none v none (part ∷ parts) = sum_none (plus v part) (numbers_none _ v part.1) parts

pub factors_none : (v : Value) → HasNoBytes v → (parts : List (Op × Value)) → HasNoBytes (fold times v parts)
factors_none v none [] = none
factors_none v none (part ∷ parts) = factors_none (times v part) (numbers_none _ v part.1) parts

pub product_none : (v : Value) (parts : List (Op × Expr)) → HasAtLeast 1 parts → HasNoBytes (fold times v (map {B = Op × Value} (λ (p : Op × Expr). (p.0, value [] [] p.1)) parts))
product_none v [] some = absurd (omega (arith, some.0))
product_none v (part ∷ parts) some =
    factors_none (times v (part.0, value [] [] part.1)) (numbers_none _ v (value [] [] part.1)) (map {B = Op × Value} (λ (p : Op × Expr). (p.0, value [] [] p.1)) parts)

pub no_bytes_short : (v : Value) → HasNoBytes v → IsShortValue v
no_bytes_short value.Null none = tt
no_bytes_short (value.Int n) none = tt
no_bytes_short (value.Day day) none = tt
no_bytes_short (value.Bytes bytes) none = absurd none

-- ---- a constant of integers and days has none

pub text_wrong : (k : Kind) (v : Value) (o : Option ℤ) → has_kind k expr.Bytes ≡ false → IsConstantFinding k v (kind_finding false (text_shape o)) → ⊥
text_wrong k v (Some day) other is = cc
text_wrong k v None other is = cc

pub hex_wrong : (k : Kind) (v : Value) → has_kind k expr.Bytes ≡ false → IsConstantFinding k v (Ok expr.Bytes) → ⊥
hex_wrong k v other is = cc

abbrev pub valued : Expr-F Expr → Value
valued layer = value_step [] [] (map-Expr Expr Value (value [] []) layer)

abbrev pub found_in : Bool → Expr-F Expr → Result ExprKind CheckFault
found_in date layer = after (finding_step [] (map-Expr Expr Finding (finding []) layer)) (λ found. kind_finding date found.shape)

pub layer_none : (k : Kind) (date : Bool) → has_kind k expr.Bytes ≡ false → (layer : Expr-F Expr) → IsStorableNode layer → IsConstantFinding k (wanted date layer (valued layer)) (found_in date layer) → HasNoBytes (wanted date layer (valued layer))
layer_none k true other (Expr-F.Number n) so is = tt
layer_none k true other (Expr-F.Text bytes) so is = date_none (day_of bytes)
layer_none k true other (Expr-F.Hex bytes) so is = absurd (hex_wrong k _ other is)
layer_none k true other (Expr-F.Date day) so is = date_none day
layer_none k true other Expr-F.Null so is = tt
layer_none k true other (Expr-F.Column name) so is = absurd is
layer_none k true other (Expr-F.Neg part) so is = number_none _ (value [] [] part)
layer_none k true other (Expr-F.Sum parts) so is = sum_none (value.Int (pos 0)) tt (map {B = Bool × Value} (λ (p : Bool × Expr). (p.0, value [] [] p.1)) parts)
layer_none k true other (Expr-F.Product first parts) so is = product_none (value [] [] first) parts so
layer_none k true other (Expr-F.Call called part) so is = call_none called (value [] [] part)
layer_none k false other (Expr-F.Number n) so is = tt
layer_none k false other (Expr-F.Text bytes) so is = absurd (text_wrong k _ (day_of bytes) other is)
layer_none k false other (Expr-F.Hex bytes) so is = absurd (hex_wrong k _ other is)
layer_none k false other (Expr-F.Date day) so is = date_none day
layer_none k false other Expr-F.Null so is = tt
layer_none k false other (Expr-F.Column name) so is = absurd is
layer_none k false other (Expr-F.Neg part) so is = number_none _ (value [] [] part)
layer_none k false other (Expr-F.Sum parts) so is = sum_none (value.Int (pos 0)) tt (map {B = Bool × Value} (λ (p : Bool × Expr). (p.0, value [] [] p.1)) parts)
layer_none k false other (Expr-F.Product first parts) so is = product_none (value [] [] first) parts so
layer_none k false other (Expr-F.Call called part) so is = call_none called (value [] [] part)

-- an item of another kind than bytes
pub other_short : (k : Kind) (x : Expr) → has_kind k expr.Bytes ≡ false → IsStorableExpr x → IsConstantExpr k x → IsShortValue (worth k x)
other_short k x other so is =
    let valued_out = fold_out-Expr Value (value_step [] []) x in
    let found_out = fold_out-Expr Finding (finding_step []) x in
    let opened =
    subst (λ (v : Value). IsConstantFinding k (wanted (is_date k) (out-Expr x) v) (found_in (is_date k) (out-Expr x))) valued_out
    (subst (λ (r : Finding). IsConstantFinding k (worth k x) (after r (λ found. kind_finding (is_date k) found.shape))) found_out is) in
    subst (λ (v : Value). IsShortValue (wanted (is_date k) (out-Expr x) v)) (sym valued_out)
    (no_bytes_short _ (layer_none k (is_date k) other (out-Expr x) (every_here-Expr IsStorableNode x so.nodes) opened))

pub bytes_short : (most : ℕ) (v : Value) (found : Result ExprKind CheckFault) → is_too_long (kind.Binary most) ≡ false → IsConstantFinding (kind.Binary most) v found → IsShortValue v
bytes_short most value.Null found long is = tt
bytes_short most (value.Int n) found long is = tt
bytes_short most (value.Day day) found long is = tt
bytes_short most (value.Bytes bytes) (Ok own) long is = grind (arith, long, is.1)
bytes_short most (value.Bytes bytes) (Err fault) long is = absurd is

pub short_worth : (k : Kind) (x : Expr) → is_too_long k ≡ false → IsStorableExpr x → IsConstantExpr k x → IsShortValue (worth k x)
short_worth kind.Int x long so is = other_short kind.Int x refl so is
short_worth kind.BigInt x long so is = other_short kind.BigInt x refl so is
short_worth kind.Date x long so is = other_short kind.Date x refl so is
short_worth (kind.Binary most) x long so is = bytes_short most (worth (kind.Binary most) x) (item_finding (kind.Binary most) x) long is

pub short_bound : (k : Kind) (item : BoundSpec) → is_too_long k ≡ false → IsStorableBound item → IsConstant k item → IsShortBound (bound_of k item)
short_bound k written.Max long so is = tt
short_bound k (written.Value x) long so is = short_worth k x long so is

-- ---- kinds of items

pub kind_limited : (ks : List Kind) (n : ℕ) → All IsLimited ks → IsLimited (slice_index_or ks n kind.BigInt)
kind_limited [] zero so = refl
kind_limited [] (suc n) so = refl
kind_limited (k ∷ ks) zero so = All-head IsLimited k ks so
kind_limited (k ∷ ks) (suc n) so = kind_limited ks n (All-tail IsLimited k ks so)

pub items_limited : (columns : List Column) (numbers : List ℕ) → All IsLimited (map (λ (column : Column). column.kind) columns) → All IsLimited (map (kind_at columns) numbers)
items_limited columns [] so = All-nil IsLimited
items_limited columns (number ∷ numbers) so =
    All-cons IsLimited (kind_at columns number) (map (kind_at columns) numbers) (kind_limited (map (λ (column : Column). column.kind) columns) number so) (items_limited columns numbers so)

pub kinds_limited : (columns : List Column) (own : PartBy) → All IsLimited (map (λ (column : Column). column.kind) columns) → All IsLimited (kinds_of columns own)
kinds_limited columns by.Whole so = All-nil IsLimited
kinds_limited columns (by.Range x) so = All-cons IsLimited kind.BigInt [] refl (All-nil IsLimited)
kinds_limited columns (by.List x) so = All-cons IsLimited kind.BigInt [] refl (All-nil IsLimited)
kinds_limited columns (by.RangeColumns numbers) so = items_limited columns numbers so
kinds_limited columns (by.ListColumns numbers) so = items_limited columns numbers so
kinds_limited columns (by.Hash linear x) so = All-nil IsLimited
kinds_limited columns (by.Key linear numbers) so = All-nil IsLimited

-- ---- tuples

pub tuple_short : (kinds : List Kind) (items : List BoundSpec) → All IsLimited kinds → All IsStorableBound items → AreConstants kinds items → All IsShortBound (tuple_of kinds items)
tuple_short [] items limited so are = All-nil IsShortBound
tuple_short (k ∷ kinds) [] limited so are = All-nil IsShortBound
tuple_short (k ∷ kinds) (item ∷ items) limited so are =
    All-cons IsShortBound (bound_of k item) (tuple_of kinds items) (short_bound k item (All-head IsLimited k kinds limited) (All-head IsStorableBound item items so) are.0)
    (tuple_short kinds items (All-tail IsLimited k kinds limited) (All-tail IsStorableBound item items so) are.1)

pub tuple_length : (kinds : List Kind) (items : List BoundSpec) → length items ≡ length kinds → length (tuple_of kinds items) ≡ length kinds
tuple_length [] [] same = refl
tuple_length [] (item ∷ items) same = refl
tuple_length (k ∷ kinds) [] same = absurd (omega (arith, same))
tuple_length (k ∷ kinds) (item ∷ items) same = ap suc (tuple_length kinds items (omega (arith, same)))

pub equal : (m n : ℕ) → (m == n) ≡ true → m ≡ n
equal m n is = grind (arith, is)

abbrev pub AreStorable : List BoundSpec → Type 0
AreStorable items = All IsStorableBound items

pub tuples_storable : (less : Bool) (kinds : List Kind) (tuples : List (List BoundSpec)) → All IsLimited kinds → All AreStorable tuples → list_any (is_wrong_written less kinds) tuples ≡ false → All (AreConstants kinds) tuples
    → All (IsStorableTuple (length kinds)) (map (tuple_of kinds) tuples)
tuples_storable less kinds [] limited so wrong are = All-nil (IsStorableTuple (length kinds))
tuples_storable less kinds (tuple ∷ tuples) limited so wrong are =
    All-cons (IsStorableTuple (length kinds)) (tuple_of kinds tuple) (map (tuple_of kinds) tuples) (record {
      items = tuple_length kinds tuple (equal (length tuple) (length kinds) (not_false _ (first_false _ _ (first_false _ _ wrong))));
      short = tuple_short kinds tuple limited (All-head AreStorable tuple tuples so) (All-head (AreConstants kinds) tuple tuples are);
    }) (tuples_storable less kinds tuples limited (All-tail AreStorable tuple tuples so) (second_false _ _ wrong) (All-tail (AreConstants kinds) tuple tuples are))

-- ---- VALUES

module _ (table : List ℕ) (kinds : List Kind) (less : Bool) (name : List ℕ) (limited : All IsLimited kinds) where
  -- tuples that are refused nothing
  passed : (tuples : List (List BoundSpec)) → All AreStorable tuples → bad_tuples table kinds less name (Some tuples) ≡ None → All (IsStorableTuple (length kinds)) (map (tuple_of kinds) tuples)
  passed tuples so none =
      let wrong = passes _ _ (none_first _ _ none) in
      tuples_storable less kinds tuples limited so wrong
      (sound_tuples less kinds tuples wrong (passes _ _ (none_first _ _ (none_next _ _ none))) (passes _ _ (none_first _ _ (none_next _ _ (none_next _ _ none)))))

pub max_storable : AreStorable (written.Max ∷ [])
max_storable = All-cons IsStorableBound written.Max [] tt (All-nil IsStorableBound)

pub one_tuple : (items : List BoundSpec) → AreStorable items → All AreStorable (items ∷ [])
one_tuple items so = All-cons AreStorable items [] so (All-nil AreStorable)

pub entry_storable : (own : Entry) → IsStorableEntry own → AreStorable (entry_items own)
entry_storable (entry.One item) so = All-cons IsStorableBound item [] so (All-nil IsStorableBound)
entry_storable (entry.Many items) so = so.1

pub entries_storable : (entries : List Entry) → All IsStorableEntry entries → All AreStorable (map entry_items entries)
entries_storable [] so = All-nil AreStorable
entries_storable (own ∷ entries) so =
    All-cons AreStorable (entry_items own) (map entry_items entries) (entry_storable own (All-head IsStorableEntry own entries so)) (entries_storable entries (All-tail IsStorableEntry own entries so))

-- RANGE has one tuple, LIST one and more, and HASH and KEY none
module _ (table : List ℕ) (columns : List Column) (name : List ℕ) (all : All IsLimited (map (λ (column : Column). column.kind) columns)) where
  range_storable : (kinds : List Kind) → All IsLimited kinds → (o : Option ValuesSpec) → IfSome o IsStorableValues → bad_tuples table kinds true name (range_tuples o) ≡ None
      → (length (option_map_or (λ tuples. map (tuple_of kinds) tuples) (range_tuples o) []) ≡ 1) × All (IsStorableTuple (length kinds)) (option_map_or (λ tuples. map (tuple_of kinds) tuples) (range_tuples o) [])
  range_storable kinds limited None so none = absurd (cc)
  range_storable kinds limited (Some values.LessMax) so none = (refl, passed table kinds true name limited ((written.Max ∷ []) ∷ []) (one_tuple (written.Max ∷ []) max_storable) none)
  range_storable kinds limited (Some (values.Less items)) so none = (refl, passed table kinds true name limited (items ∷ []) (one_tuple items so.1) none)
  range_storable kinds limited (Some (values.Among entries)) so none = absurd (cc)

  list_storable : (kinds : List Kind) → All IsLimited kinds → (o : Option ValuesSpec) → IfSome o IsStorableValues → bad_tuples table kinds false name (list_tuples o) ≡ None
      → HasAtLeast 1 (option_map_or (λ tuples. map (tuple_of kinds) tuples) (list_tuples o) []) × All (IsStorableTuple (length kinds)) (option_map_or (λ tuples. map (tuple_of kinds) tuples) (list_tuples o) [])
  list_storable kinds limited None so none = absurd (cc)
  list_storable kinds limited (Some values.LessMax) so none = absurd (cc)
  list_storable kinds limited (Some (values.Less items)) so none = absurd (cc)
  list_storable kinds limited (Some (values.Among entries)) so none =
      let same = length-map (map entry_items entries) (tuple_of kinds) ∙ length-map entries entry_items in
      ((omega (arith, so.0.0, same), omega (arith, so.0.1, same)), passed table kinds false name limited (map entry_items entries) (entries_storable entries so.1) none)

  none_storable : (kinds : List Kind) (o : Option ValuesSpec) → bad_tuples table kinds false name (no_tuples o) ≡ None → option_map_or (λ tuples. map (tuple_of kinds) tuples) (no_tuples o) [] ≡ []
  none_storable kinds None none = refl
  none_storable kinds (Some own) none = absurd (cc)

  at_width : (numbers : List ℕ) (bounds : List (List Bound)) → All (IsStorableTuple (length (map (kind_at columns) numbers))) bounds → All (IsStorableTuple (length numbers)) bounds
  at_width numbers bounds so = subst (λ n. All (IsStorableTuple n) bounds) (length-map numbers (kind_at columns)) so

  pub bounds_storable : (own : PartBy) (o : Option ValuesSpec) → is_whole own ≡ false → IfSome o IsStorableValues → bad_tuples table (kinds_of columns own) (is_range own) name (tuples_in own o) ≡ None
      → AreBoundsOf own (bounds_of (kinds_of columns own) own o)
  bounds_storable by.Whole o some so none = absurd (cc)
  bounds_storable (by.Range x) o some so none = range_storable (kind.BigInt ∷ []) (kinds_limited columns (by.Range x) all) o so none
  bounds_storable (by.List x) o some so none = list_storable (kind.BigInt ∷ []) (kinds_limited columns (by.List x) all) o so none
  bounds_storable (by.RangeColumns numbers) o some so none =
      let both = range_storable (map (kind_at columns) numbers) (kinds_limited columns (by.RangeColumns numbers) all) o so none in (both.0, at_width numbers _ both.1)
  bounds_storable (by.ListColumns numbers) o some so none =
      let both = list_storable (map (kind_at columns) numbers) (kinds_limited columns (by.ListColumns numbers) all) o so none in (both.0, at_width numbers _ both.1)
  bounds_storable (by.Hash linear x) o some so none = none_storable [] o none
  bounds_storable (by.Key linear numbers) o some so none = none_storable [] o none
