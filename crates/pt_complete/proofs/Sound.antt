-- VALUES that pass the checks of a text are constants of their kinds.
use Rattle.std.proofs.Common.{◌≡◌, ◌⊎◌, inl, inr, ℕ, zero, suc, ◌+◌, ◌<◌, ◌≤◌, ℤ, Bool, true, false, List, [], ◌∷◌, ◌++◌, length, drop, get_or, map, Option, Some, None, Result, Ok, Err, refl, sym, ap, subst, ◌∙◌, arith, add-one, All}
use Rattle.std.specs.Prelude.{IfOk}
use Rattle.std.specs.List.{list_any, slice_get}
use Rattle.std.proofs.lemmas.List.{append-nil, append_assoc, at_drop_all}
use Rattle.std.proofs.lemmas.List.Elements.{All-cons, All-head, All-nil, All-tail}
use Rattle.pt_value.specs.declared.value.Value.{Value}
use Rattle.pt_value.specs.declared.value.Value.TheVariants as value
use Rattle.pt_value.specs.declared.value.Kind.{Kind}
use Rattle.pt_value.specs.declared.value.Kind.TheVariants as kind
use Rattle.pt_ast.specs.declared.tree.Expr.{Expr}
use Rattle.pt_ast.specs.declared.written.BoundSpec.{BoundSpec}
use Rattle.pt_ast.specs.declared.written.BoundSpec.TheVariants as written
use Rattle.pt_ast.specs.declared.written.ValuesSpec.{ValuesSpec}
use Rattle.pt_ast.specs.declared.written.ValuesSpec.TheVariants as values
use Rattle.pt_ast.specs.declared.written.Entry.{Entry}
use Rattle.pt_ast.specs.declared.written.PartItem.{PartItem}
use Rattle.pt_ast.specs.declared.table.Bound.{Bound}
use Rattle.pt_ast.specs.declared.table.Column.{Column}
use Rattle.pt_ast.specs.declared.table.PartBy.{PartBy}
use Rattle.pt_expr.specs.declared.kind.ExprKind.{ExprKind}
use Rattle.pt_expr.specs.declared.kind.ExprKind.TheVariants as expr
use Rattle.pt_expr.specs.declared.kind.CheckFault.{CheckFault}
use Rattle.pt_expr.specs.declared.kind.CheckFault.TheVariants as fault
use Rattle.pt_expr.specs.Found.{checked}
use Rattle.pt_expr.specs.Kinds.{HasKind}
use Rattle.pt_expr.specs.Values.{whole_value}
use Rattle.pt_place.specs.Checks.{is_range}
use Rattle.pt_place.specs.First.{first_in}
use Rattle.pt_place.specs.Fitting.{is_in_range, kinds_of}
use Rattle.pt_place.proofs.Firsts.{none_first, none_next, passes}
use Rattle.pt_written.specs.Complete.{bad_tuples, bad_written_values, has_item, has_kind, is_out_finding, is_out_item, is_wide_finding, is_wide_item, is_wrong_finding, is_wrong_item, is_wrong_written, item_finding}
use Rattle.pt_written.specs.ReadingValues.{tuples_written}
use Rattle.pt_written.specs.WrittenParts.{bound_of, entry_items, is_date, tuple_of, tuples_in, worth}
use Rattle.pt_written.proofs.WrittenValues.{form}
use Rattle.pt_complete.proofs.Kept.{first_false, int_big, not_false, second_false}
use Rattle.pt_complete.specs.Making.{AreConstants, CanKeep, IsConstant, IsConstantExpr, IsConstantFinding, IsPartSound}

-- ---- an item

pub sound_finding : (less : Bool) (k : Kind) (v : Value) (found : Result ExprKind CheckFault)
    → is_wrong_finding less k v found ≡ false → is_wide_finding found ≡ false → is_out_finding k v found ≡ false → IsConstantFinding k v found
sound_finding less k v (Ok kind) wrong wide out = (not_false _ (first_false _ _ wrong), not_false _ out)
sound_finding less k v (Err fault.Mismatch) wrong wide out = absurd (cc)
sound_finding less k v (Err (fault.NoColumn name)) wrong wide out = absurd (cc)
sound_finding less k v (Err fault.TooWide) wrong wide out = absurd (cc)
sound_finding less k v (Err fault.BadDate) wrong wide out = absurd (cc)

pub sound_item : (less : Bool) (k : Kind) (item : BoundSpec) → is_wrong_item less k item ≡ false → is_wide_item k item ≡ false → is_out_item k item ≡ false → IsConstant k item
sound_item less k written.Max wrong wide out = tt
sound_item less k (written.Value expr) wrong wide out = sound_finding less k (worth k expr) (item_finding k expr) (second_false _ _ wrong) wide out

-- ---- a tuple, and the tuples

pub sound_items : (less : Bool) (kinds : List Kind) (items : List BoundSpec)
    → has_item (is_wrong_item less) kinds items ≡ false → has_item is_wide_item kinds items ≡ false → has_item is_out_item kinds items ≡ false → AreConstants kinds items
sound_items less (k ∷ kinds) (item ∷ items) wrong wide out =
    (sound_item less k item (first_false _ _ wrong) (first_false _ _ wide) (first_false _ _ out), sound_items less kinds items (second_false _ _ wrong) (second_false _ _ wide) (second_false _ _ out))
sound_items less (k ∷ kinds) [] wrong wide out = tt
sound_items less [] items wrong wide out = tt

pub sound_tuples : (less : Bool) (kinds : List Kind) (tuples : List (List BoundSpec))
    → list_any (is_wrong_written less kinds) tuples ≡ false → list_any (has_item is_wide_item kinds) tuples ≡ false → list_any (has_item is_out_item kinds) tuples ≡ false
    → All (AreConstants kinds) tuples
sound_tuples less kinds [] wrong wide out = All-nil (AreConstants kinds)
sound_tuples less kinds (tuple ∷ tuples) wrong wide out =
    All-cons (AreConstants kinds) tuple tuples
    (sound_items less kinds tuple (second_false _ _ (first_false _ _ wrong)) (first_false _ _ wide) (first_false _ _ out))
    (sound_tuples less kinds tuples (second_false _ _ wrong) (second_false _ _ wide) (second_false _ _ out))

-- ---- partitions

pub sound_found : (table : List ℕ) (columns : List Column) (by : PartBy) (name : List ℕ) (values : Option ValuesSpec) (found : Option (List (List BoundSpec)))
    → (found ≡ None) ⊎ (found ≡ Some (tuples_written values)) → bad_tuples table (kinds_of columns by) (is_range by) name found ≡ None
    → (found ≡ Some (tuples_written values)) × All (AreConstants (kinds_of columns by)) (tuples_written values)
sound_found table columns by name values None either none = absurd (cc)
sound_found table columns by name values (Some tuples) (inl e) none = absurd (cc)
sound_found table columns by name values (Some tuples) (inr e) none =
    let is : tuples ≡ tuples_written values = cc in
    (e, rw (sym is) (sound_tuples (is_range by) (kinds_of columns by) tuples (passes _ _ (none_first _ _ none)) (passes _ _ (none_first _ _ (none_next _ _ none))) (passes _ _ (none_first _ _ (none_next _ _ (none_next _ _ none))))))

pub sound_part : (table : List ℕ) (columns : List Column) (by : PartBy) (part : PartItem) → bad_written_values table (kinds_of columns by) by part ≡ None → IsPartSound columns by part
sound_part table columns by part none = sound_found table columns by part.name part.values (tuples_in by part.values) (form by part.values) none

pub sound_parts : (table : List ℕ) (columns : List Column) (by : PartBy) (parts : List PartItem) → first_in (bad_written_values table (kinds_of columns by) by) parts ≡ None → All (IsPartSound columns by) parts
sound_parts table columns by [] none = All-nil (IsPartSound columns by)
sound_parts table columns by (part ∷ parts) none =
    All-cons (IsPartSound columns by) part parts (sound_part table columns by part (none_first _ _ none)) (sound_parts table columns by parts (none_next _ _ none))

-- ---- what an item comes to

pub wide_kind : (k : Kind) (kind : ExprKind) (n : ℤ) → has_kind k kind ≡ true → is_in_range k (value.Int n) ≡ true → HasKind kind (value.Int n) → CanKeep (value.Int n)
wide_kind k expr.Any n is within has = absurd has
wide_kind k expr.Day n is within has = absurd has
wide_kind k expr.Bytes n is within has = absurd has
wide_kind kind.Int expr.Wide n is within has = int_big n within
wide_kind kind.BigInt expr.Wide n is within has = within
wide_kind kind.Date expr.Wide n is within has = cc
wide_kind (kind.Binary most) expr.Wide n is within has = cc

pub can_keep : (k : Kind) (v : Value) (found : Result ExprKind CheckFault) → IsConstantFinding k v found → IfOk found (λ kind. HasKind kind v) → CanKeep v
can_keep k value.Null found is has = tt
can_keep k (value.Day day) found is has = tt
can_keep k (value.Bytes bytes) found is has = tt
can_keep k (value.Int n) (Ok kind) is has = wide_kind k kind n is.0 is.1 has
can_keep k (value.Int n) (Err fault) is has = absurd is

-- ---- items beside their kinds

pub all_constants : (kinds : List Kind) (items : List BoundSpec) (i : ℕ) (k : Kind) (item : BoundSpec) → i < length items → slice_get kinds i ≡ Some k → item ≡ get_or items i item
    → AreConstants (drop i kinds) (drop i items) → IsConstant k item × AreConstants (drop (suc i) kinds) (drop (suc i) items)
all_constants kinds [] i k item within here is so = absurd (omega (arith, within))
all_constants [] (b ∷ bs) i k item within here is so = absurd (cc)
all_constants (own ∷ kinds) (b ∷ bs) zero k item within here is so =
    let same : own ≡ k = cc in
    let that : b ≡ item = sym is in
    (subst (λ x. IsConstant k x) that (subst (λ x. IsConstant x b) same so.0), so.1)
all_constants (own ∷ kinds) (b ∷ bs) (suc i) k item within here is so = all_constants kinds bs i k item (omega (arith, within)) here is so

pub next_constants : (kinds : List Kind) (items : List BoundSpec) (i : ℕ) (k : Kind) (item : BoundSpec) → i < length items → slice_get kinds i ≡ Some k → item ≡ get_or items i item
    → AreConstants (drop i kinds) (drop i items) → AreConstants (drop (i + 1) kinds) (drop (i + 1) items)
next_constants kinds items i k item within here is so = rw add-one (all_constants kinds items i k item within here is so).1

pub tuple_step : (kinds : List Kind) (items : List BoundSpec) (i : ℕ) (k : Kind) (item : BoundSpec) → i < length items → slice_get kinds i ≡ Some k → item ≡ get_or items i item
    → tuple_of (drop i kinds) (drop i items) ≡ bound_of k item ∷ tuple_of (drop (suc i) kinds) (drop (suc i) items)
tuple_step kinds [] i k item within here is = absurd (omega (arith, within))
tuple_step [] (b ∷ bs) i k item within here is = cc
tuple_step (own ∷ kinds) (b ∷ bs) zero k item within here is = let same : own ≡ k = cc in rw (same, is) refl
tuple_step (own ∷ kinds) (b ∷ bs) (suc i) k item within here is = tuple_step kinds bs i k item (omega (arith, within)) here is

pub tuple_none : (kinds : List Kind) (i : ℕ) (items : List BoundSpec) → slice_get kinds i ≡ None → tuple_of (drop i kinds) items ≡ []
tuple_none [] zero items none = refl
tuple_none [] (suc i) items none = refl
tuple_none (own ∷ kinds) zero items none = cc
tuple_none (own ∷ kinds) (suc i) items none = tuple_none kinds i items none

pub tuple_nil : (kinds : List Kind) → tuple_of kinds [] ≡ []
tuple_nil [] = refl
tuple_nil (k ∷ kinds) = refl

module _ (kinds : List Kind) (items : List BoundSpec) (i : ℕ) (made : List Bound) (kept : made ++ tuple_of (drop i kinds) (drop i items) ≡ tuple_of kinds items) where
  pub tuple_more : (k : Kind) (item : BoundSpec) (next : List Bound) → i < length items → slice_get kinds i ≡ Some k → item ≡ get_or items i item → next ≡ made ++ bound_of k item ∷ []
      → next ++ tuple_of (drop (i + 1) kinds) (drop (i + 1) items) ≡ tuple_of kinds items
  tuple_more k item next within here is is_next = rw add-one (
      ap (λ l. l ++ tuple_of (drop (suc i) kinds) (drop (suc i) items)) is_next
      ∙ append_assoc made (bound_of k item ∷ []) (tuple_of (drop (suc i) kinds) (drop (suc i) items))
      ∙ ap (λ l. made ++ l) (sym (tuple_step kinds items i k item within here is)) ∙ kept)

  pub tuple_short : slice_get kinds i ≡ None → made ≡ tuple_of kinds items
  tuple_short none = sym (append-nil made) ∙ ap (λ l. made ++ l) (sym (tuple_none kinds i (drop i items) none)) ∙ kept

  pub tuple_end : length items ≤ i → made ≡ tuple_of kinds items
  tuple_end past = sym (append-nil made) ∙ ap (λ l. made ++ l) (sym (at_drop_all (tuple_of (drop i kinds)) items i past ∙ tuple_nil (drop i kinds))) ∙ kept

-- ---- a tuple of one item

pub one_constant : (kinds : List Kind) (k : Kind) (item : BoundSpec) → slice_get kinds 0 ≡ Some k → AreConstants kinds (item ∷ []) → IsConstant k item
one_constant [] k item here so = absurd (cc)
one_constant (own ∷ kinds) k item here so = let same : own ≡ k = cc in subst (λ x. IsConstant x item) same so.0

pub one_tuple : (kinds : List Kind) (k : Kind) (item : BoundSpec) → slice_get kinds 0 ≡ Some k → bound_of k item ∷ [] ≡ tuple_of kinds (item ∷ [])
one_tuple [] k item here = cc
one_tuple (own ∷ kinds) k item here = let same : own ≡ k = cc in rw (sym same) (ap (λ l. bound_of own item ∷ l) (sym (tuple_nil kinds)))

pub no_tuple : (kinds : List Kind) (item : BoundSpec) → slice_get kinds 0 ≡ None → [] ≡ tuple_of kinds (item ∷ [])
no_tuple [] item none = refl
no_tuple (own ∷ kinds) item none = cc

-- ---- entries

pub unmapped : {X Y : Type 0} (P : X → Type 0) (f : Y → X) (ys : List Y) → All P (map f ys) → All (λ y. P (f y)) ys
unmapped P f [] so = All-nil (λ y. P (f y))
unmapped P f (y ∷ ys) so = All-cons (λ y. P (f y)) y ys (All-head P (f y) (map f ys) so) (unmapped P f ys (All-tail P (f y) (map f ys) so))

pub entries_are : (kinds : List Kind) (v : ValuesSpec) (entries own : List Entry) → v ≡ values.Among entries → own ≡ entries → All (AreConstants kinds) (tuples_written (Some v))
    → All (λ entry. AreConstants kinds (entry_items entry)) own
entries_are kinds v entries own is same so =
    subst (All (λ entry. AreConstants kinds (entry_items entry))) (sym same) (unmapped (AreConstants kinds) entry_items entries (subst (λ (o : ValuesSpec). All (AreConstants kinds) (tuples_written (Some o))) is so))

-- ---- what a constant comes to

module _ (columns : List Column) (cells : List Value) (date : Bool) (k : Kind) (expr : Expr) (v : Value) (none : columns ≡ []) (no_cells : cells ≡ []) (wanted : date ≡ is_date k) (is : v ≡ whole_value columns expr date cells) where
  pub worth_of : v ≡ worth k expr
  worth_of = is ∙ ap (λ c. whole_value c expr date cells) none ∙ ap (λ c. whole_value [] expr date c) no_cells ∙ ap (λ d. whole_value [] expr d []) wanted

  pub keep_of : IsConstantExpr k expr → IfOk (checked columns expr date) (λ kind. HasKind kind v) → CanKeep v
  keep_of constant has =
      can_keep k v (item_finding k expr) (subst (λ w. IsConstantFinding k w (item_finding k expr)) (sym worth_of) constant)
      (subst (λ d. IfOk (checked [] expr d) (λ kind. HasKind kind v)) wanted (subst (λ c. IfOk (checked c expr date) (λ kind. HasKind kind v)) none has))
