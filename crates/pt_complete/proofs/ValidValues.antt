-- VALUES that pass as a text pass as bounds and lists of values.
use Rattle.std.proofs.Common.{◌≡◌, ℕ, suc, ◌<◌, ◌≤◌, ◌^◌, ℤ, Bool, true, false, cond, not, ◌&&◌, ◌||◌, ◌==◌, List, [], ◌∷◌, map, length, Option, Some, None, Result, Ok, Err, IfOk, refl, sym, ap, subst, ◌∙◌, arith, All}
use Rattle.std.specs.Prelude.{IfSome, fold, nat_lt, neg_ℤ, pos, sum_by}
use Rattle.std.specs.List.{list_any}
use Rattle.std.specs.Option.{option_map_or}
use Rattle.std.proofs.lemmas.Bool.{eq-eqb, eqb-true, ltb-true, ne_eqb, not-false, or_from, or_parts, true≢false}
use Rattle.std.proofs.lemmas.List.{length-map}
use Rattle.std.proofs.lemmas.List.Elements.{All-head, All-tail}
use Rattle.pt_value.specs.declared.value.Value.{Value}
use Rattle.pt_value.specs.declared.value.Value.TheVariants as value
use Rattle.pt_value.specs.declared.value.Kind.{Kind}
use Rattle.pt_value.specs.declared.value.Kind.TheVariants as kind
use Rattle.pt_ast.specs.declared.tree.Func.{Func}
use Rattle.pt_ast.specs.declared.tree.Func.TheVariants as func
use Rattle.pt_ast.specs.declared.tree.Op.{Op}
use Rattle.pt_ast.specs.declared.tree.Expr.{Expr, map-Expr}
use Rattle.pt_ast.specs.declared.tree.Expr.TheOpen.{Expr-F}
use Rattle.pt_ast.specs.declared.tree.Expr.TheViews.{out-Expr, roll-Expr}
use Rattle.pt_ast.specs.declared.tree.Expr.TheFolds.{fold-roll-Expr, ind-Expr}
use Rattle.pt_ast.specs.declared.written.BoundSpec.{BoundSpec}
use Rattle.pt_ast.specs.declared.written.BoundSpec.TheVariants as written
use Rattle.pt_ast.specs.declared.written.HashSpec.{HashSpec}
use Rattle.pt_ast.specs.declared.written.HashSpec.TheVariants as hash
use Rattle.pt_ast.specs.declared.written.MainSpec.{MainSpec}
use Rattle.pt_ast.specs.declared.written.MainSpec.TheVariants as main
use Rattle.pt_ast.specs.declared.written.PartItem.{PartItem}
use Rattle.pt_ast.specs.declared.written.SubSpec.{SubSpec}
use Rattle.pt_ast.specs.declared.written.ValuesSpec.{ValuesSpec}
use Rattle.pt_ast.specs.declared.written.ValuesSpec.TheVariants as values
use Rattle.pt_ast.specs.declared.table.Column.{Column}
use Rattle.pt_ast.specs.declared.table.KeyDef.{KeyDef}
use Rattle.pt_ast.specs.declared.table.PartBy.{PartBy}
use Rattle.pt_ast.specs.declared.table.PartBy.TheVariants as by
use Rattle.pt_ast.specs.declared.refusal.Arg.TheVariants as arg
use Rattle.pt_ast.specs.declared.refusal.Refusal.TheVariants as refusal
use Rattle.pt_ast.specs.StorableSpec.{AreStorableParts, IsStorablePart, IsStorableValues}
use Rattle.pt_expr.specs.declared.kind.ExprKind.{ExprKind}
use Rattle.pt_expr.specs.declared.kind.ExprKind.TheVariants as expr
use Rattle.pt_expr.specs.declared.kind.CheckFault.{CheckFault}
use Rattle.pt_expr.specs.declared.kind.CheckFault.TheVariants as fault
use Rattle.pt_expr.specs.Agrees.{Agrees, IsNull, IsWithin}
use Rattle.pt_expr.specs.Found.{Finding, after, all_found, beside, bound_after, call_finding, checked, date_finding, finding, finding_step, kind_finding, may_be_wide, narrow, negation, number_finding, product_bound, product_finding, sum_finding, wide}
use Rattle.pt_expr.specs.Kinds.{HasKind}
use Rattle.pt_expr.specs.Values.{as_day, call, day_or_null, on_day, on_number, on_numbers, part_of_day, plus, times, value, value_step, wanted, whole_value}
use Rattle.pt_expr.proofs.KindsHold.{kind_holds}
use Rattle.pt_expr.proofs.Magnitudes.{wide_within}
use Rattle.pt_expr.proofs.Nodes.{call_agrees, date_agrees, negation_agrees, number_agrees, text_agrees}
use Rattle.pt_place.specs.Checks.{is_null, is_range}
use Rattle.pt_place.specs.First.{first_in}
use Rattle.pt_place.specs.Fitting.{is_in_range, is_of_kind}
use Rattle.pt_place.specs.Valid.{bad_values, has_bound, is_bound_out, is_tuple_count, is_wrong_bound, is_wrong_tuple}
use Rattle.pt_place.proofs.Firsts.{none_first, none_next, passes}
use Rattle.pt_written.specs.Complete.{bad_tuples, bad_written_values, has_item, has_kind, is_out_finding, is_out_item, is_wide_finding, is_wide_item, is_wrong_finding, is_wrong_item, is_wrong_written, item_finding, needs_parts}
use Rattle.pt_written.specs.WrittenParts.{bound_of, bounds_of, by_hash, by_of, entry_items, is_date, list_tuples, no_tuples, part_in, part_made, range_tuples, tuple_of, tuples_in, worth}
use Rattle.pt_complete.proofs.ValidNames.{both_none, not_refused}

-- ---- the value of a constant expression is of the kind that it is found to be

abbrev pub IsOfKind : ExprKind → Value → Type 0
IsOfKind kind value.Null = Unit {0}
IsOfKind expr.Wide (value.Int n) = Unit {0}
IsOfKind expr.Day (value.Day day) = Unit {0}
IsOfKind expr.Bytes (value.Bytes bytes) = Unit {0}
IsOfKind kind other = ⊥

abbrev pub IsNumber : Value → Type 0
IsNumber value.Null = Unit {0}
IsNumber (value.Int n) = Unit {0}
IsNumber _ = ⊥

abbrev pub IsDate : Value → Type 0
IsDate value.Null = Unit {0}
IsDate (value.Day day) = Unit {0}
IsDate _ = ⊥

-- a value stands for another: both are numbers, or days, and either may be NULL where the first is not
abbrev pub IsLike : Value → Value → Type 0
IsLike value.Null v = IsNull v
IsLike (value.Int n) v = IsNumber v
IsLike (value.Day day) v = IsDate v
IsLike (value.Bytes bytes) v = v ≡ value.Bytes bytes

pub like_self : (v : Value) → IsLike v v
like_self value.Null = tt
like_self (value.Int n) = tt
like_self (value.Day day) = tt
like_self (value.Bytes bytes) = refl

pub on_number_is : (f : ℤ → ℤ) (v : Value) → IsNumber (on_number f v)
on_number_is f value.Null = tt
on_number_is f (value.Int n) = tt
on_number_is f (value.Day day) = tt
on_number_is f (value.Bytes bytes) = tt

pub on_numbers_is : (f : ℤ → ℤ → ℤ) (v w : Value) → IsNumber (on_numbers f v w)
on_numbers_is f value.Null w = tt
on_numbers_is f (value.Int n) value.Null = tt
on_numbers_is f (value.Int n) (value.Int m) = tt
on_numbers_is f (value.Int n) (value.Day day) = tt
on_numbers_is f (value.Int n) (value.Bytes bytes) = tt
on_numbers_is f (value.Day day) w = tt
on_numbers_is f (value.Bytes bytes) w = tt

pub on_day_is : (f : ℤ → ℤ) (v : Value) → IsNumber (on_day f v)
on_day_is f value.Null = tt
on_day_is f (value.Int n) = tt
on_day_is f (value.Day day) = tt
on_day_is f (value.Bytes bytes) = tt

pub sum_is : (v : Value) (parts : List (Bool × Value)) → IsNumber v → IsNumber (fold plus v parts)
sum_is v [] so = so
sum_is v (part ∷ parts) so = sum_is (plus v part) parts (on_numbers_is _ v part.1)

pub product_is : (v : Value) (parts : List (Op × Value)) → IsNumber v → IsNumber (fold times v parts)
product_is v [] so = so
product_is v (part ∷ parts) so = product_is (times v part) parts (on_numbers_is _ v part.1)

pub like_number : (f : ℤ → ℤ) (w v : Value) → IsLike w v → IsLike (on_number f w) (on_number f v)
like_number f value.Null value.Null like = tt
like_number f value.Null (value.Int n) like = absurd like
like_number f value.Null (value.Day day) like = absurd like
like_number f value.Null (value.Bytes bytes) like = absurd like
like_number f (value.Int m) v like = on_number_is f v
like_number f (value.Day own) value.Null like = tt
like_number f (value.Day own) (value.Int n) like = absurd like
like_number f (value.Day own) (value.Day day) like = tt
like_number f (value.Day own) (value.Bytes bytes) like = absurd like
like_number f (value.Bytes own) v like = subst (λ (x : Value). IsNull (on_number f x)) (sym like) tt

pub like_day : (f : ℤ → ℤ) (w v : Value) → IsLike w v → IsLike (on_day f (as_day w)) (on_day f (as_day v))
like_day f value.Null value.Null like = tt
like_day f value.Null (value.Int n) like = absurd like
like_day f value.Null (value.Day day) like = absurd like
like_day f value.Null (value.Bytes bytes) like = absurd like
like_day f (value.Int m) value.Null like = tt
like_day f (value.Int m) (value.Int n) like = tt
like_day f (value.Int m) (value.Day day) like = absurd like
like_day f (value.Int m) (value.Bytes bytes) like = absurd like
like_day f (value.Day own) v like = on_day_is f (as_day v)
like_day f (value.Bytes own) v like = subst (λ (x : Value). IsLike (on_day f (as_day (value.Bytes own))) (on_day f (as_day x))) (sym like) (like_self (on_day f (as_day (value.Bytes own))))

pub like_call : (f : Func) (w v : Value) → IsLike w v → IsLike (call f w) (call f v)
like_call func.Abs w v like = like_number _ w v like
like_call func.Year w v like = like_day (part_of_day func.Year) w v like
like_call func.Month w v like = like_day (part_of_day func.Month) w v like
like_call func.DayOfMonth w v like = like_day (part_of_day func.DayOfMonth) w v like
like_call func.DayOfYear w v like = like_day (part_of_day func.DayOfYear) w v like
like_call func.DayOfWeek w v like = like_day (part_of_day func.DayOfWeek) w v like
like_call func.Weekday w v like = like_day (part_of_day func.Weekday) w v like
like_call func.Quarter w v like = like_day (part_of_day func.Quarter) w v like
like_call func.ToDays w v like = like_day (part_of_day func.ToDays) w v like

pub like_as_day : (w v : Value) → IsLike w v → IsLike (as_day w) (as_day v)
like_as_day value.Null value.Null like = tt
like_as_day value.Null (value.Int n) like = absurd like
like_as_day value.Null (value.Day day) like = absurd like
like_as_day value.Null (value.Bytes bytes) like = absurd like
like_as_day (value.Int m) value.Null like = tt
like_as_day (value.Int m) (value.Int n) like = tt
like_as_day (value.Int m) (value.Day day) like = absurd like
like_as_day (value.Int m) (value.Bytes bytes) like = absurd like
like_as_day (value.Day own) value.Null like = tt
like_as_day (value.Day own) (value.Int n) like = absurd like
like_as_day (value.Day own) (value.Day day) like = tt
like_as_day (value.Day own) (value.Bytes bytes) like = absurd like
like_as_day (value.Bytes own) v like = subst (λ (x : Value). IsLike (as_day (value.Bytes own)) (as_day x)) (sym like) (like_self (as_day (value.Bytes own)))

pub like_wanted : (date : Bool) (x : Expr-F Expr) (w v : Value) → IsLike w v → IsLike (wanted date x w) (wanted date x v)
like_wanted false x w v like = like
like_wanted true (Expr-F.Number n) w v like = like
like_wanted true (Expr-F.Text bytes) w v like = like_as_day w v like
like_wanted true (Expr-F.Hex bytes) w v like = like
like_wanted true (Expr-F.Date day) w v like = like
like_wanted true Expr-F.Null w v like = like
like_wanted true (Expr-F.Column name) w v like = like
like_wanted true (Expr-F.Neg part) w v like = like
like_wanted true (Expr-F.Sum parts) w v like = like
like_wanted true (Expr-F.Product first parts) w v like = like
like_wanted true (Expr-F.Call f part) w v like = like

pub like_within : (b : ℕ) (w v : Value) → IsWithin b w → IsLike w v → IsNumber v
like_within b value.Null value.Null within like = tt
like_within b value.Null (value.Int n) within like = tt
like_within b value.Null (value.Day day) within like = like
like_within b value.Null (value.Bytes bytes) within like = like
like_within b (value.Int m) v within like = like
like_within b (value.Day own) v within like = absurd within
like_within b (value.Bytes own) v within like = absurd within

pub like_kind : (kind : ExprKind) (w v : Value) → IsLike w v → HasKind kind w → IsOfKind kind v
like_kind kind w value.Null like has = tt
like_kind kind value.Null (value.Int n) like has = absurd like
like_kind kind value.Null (value.Day day) like has = absurd like
like_kind kind value.Null (value.Bytes bytes) like has = absurd like
like_kind expr.Any (value.Int m) (value.Int n) like has = absurd has
like_kind expr.Wide (value.Int m) (value.Int n) like has = tt
like_kind expr.Day (value.Int m) (value.Int n) like has = absurd has
like_kind expr.Bytes (value.Int m) (value.Int n) like has = absurd has
like_kind kind (value.Int m) (value.Day day) like has = absurd like
like_kind kind (value.Int m) (value.Bytes bytes) like has = absurd like
like_kind kind (value.Day own) (value.Int n) like has = absurd like
like_kind expr.Any (value.Day own) (value.Day day) like has = absurd has
like_kind expr.Wide (value.Day own) (value.Day day) like has = absurd has
like_kind expr.Day (value.Day own) (value.Day day) like has = tt
like_kind expr.Bytes (value.Day own) (value.Day day) like has = absurd has
like_kind kind (value.Day own) (value.Bytes bytes) like has = absurd like
like_kind kind (value.Bytes own) (value.Int n) like has = absurd (cc)
like_kind kind (value.Bytes own) (value.Day day) like has = absurd (cc)
like_kind expr.Any (value.Bytes own) (value.Bytes bytes) like has = absurd has
like_kind expr.Wide (value.Bytes own) (value.Bytes bytes) like has = absurd has
like_kind expr.Day (value.Bytes own) (value.Bytes bytes) like has = absurd has
like_kind expr.Bytes (value.Bytes own) (value.Bytes bytes) like has = tt

-- where there is no fault, a value that the finding allows stands for this one
abbrev pub Stands : Finding → Value → Type 0
Stands r v = IfOk r (λ found. (w : Value) × Agrees found w × IsLike w v)

pub stands : (r : Finding) (w v : Value) → IfOk r (λ found. Agrees found w) → IsLike w v → Stands r v
stands (Ok found) w v agrees like = (w, agrees, like)
stands (Err fault) w v agrees like = tt

pub neg_stands : (r : Finding) (v : Value) → Stands r v → Stands (after r negation) (on_number neg_ℤ v)
neg_stands (Ok found) v so = stands (negation found) (on_number neg_ℤ so.0) (on_number neg_ℤ v) (negation_agrees found so.0 so.1) (like_number neg_ℤ so.0 v so.2)
neg_stands (Err fault) v so = tt

pub call_stands : (f : Func) (r : Finding) (v : Value) → Stands r v → Stands (after r (call_finding f)) (call f v)
call_stands f (Ok found) v so = stands (call_finding f found) (call f so.0) (call f v) (call_agrees f found so.0 so.1) (like_call f so.0 v so.2)
call_stands f (Err fault) v so = tt

-- a bound below 2^126
abbrev pub IsNarrow : Result ℕ CheckFault → Type 0
IsNarrow r = IfOk r (λ bound. bound < 2 ^ 126)

pub narrowed : (n : ℕ) → IsNarrow (narrow n)
narrowed n = by_test (nat_lt n (2 ^ 126)) refl
  where
    by_test : (t : Bool) → nat_lt n (2 ^ 126) ≡ t → IsNarrow (cond t (Ok n) (Err fault.TooWide))
    by_test true is = ltb-true n (2 ^ 126) is
    by_test false is = tt

pub then_narrow : (r : Result ℕ CheckFault) (next : ℕ → Result ℕ CheckFault) → IsNarrow r → ((n : ℕ) → n < 2 ^ 126 → IsNarrow (next n)) → IsNarrow (after r next)
then_narrow (Ok n) next so more = more n so
then_narrow (Err fault) next so more = tt

pub bound_narrow : (n : ℕ) (parts : _) → n < 2 ^ 126 → IsNarrow (product_bound n parts)
bound_narrow n [] so = so
bound_narrow n (part ∷ parts) so = then_narrow (narrow (bound_after n part.0 part.1.bound)) (λ next. product_bound next parts) (narrowed (bound_after n part.0 part.1.bound)) (λ next narrow. bound_narrow next parts narrow)

pub wide_stands : (r : Result ℕ CheckFault) (v : Value) → IsNarrow r → IsNumber v → Stands (after r (λ bound. Ok (wide bound))) v
wide_stands (Ok n) v narrow so = (value.Int (pos 0), record { by = omega arith; narrow = narrow }, so)
wide_stands (Err fault) v narrow so = tt

pub chosen_stands : (a b : Bool) (r : Result ℕ CheckFault) (v : Value) → IsNarrow r → (a ≡ true → IsNumber v) → Stands (cond (a && b) (after r (λ bound. Ok (wide bound))) (Err fault.Mismatch)) v
chosen_stands true true r v narrow so = wide_stands r v narrow (so refl)
chosen_stands true false r v narrow so = tt
chosen_stands false b r v narrow so = tt

pub sum_stands : (r : _) (v : Value) → IsNumber v → Stands (after r sum_finding) v
sum_stands (Ok parts) v so = chosen_stands true _ (narrow (sum_by (λ part. part.bound) parts)) v (narrowed (sum_by (λ part. part.bound) parts)) (λ e. so)
sum_stands (Err fault) v so = tt

pub product_stands : (first : Finding) (rest : _) (v : Value) (parts : List (Op × Value)) → Stands first v → Stands (after first (λ found. after rest (product_finding found))) (fold times v parts)
product_stands (Err fault) rest v parts so = tt
product_stands (Ok found) (Err fault) v parts so = tt
product_stands (Ok found) (Ok others) v parts so =
    chosen_stands (may_be_wide found.shape) _ (product_bound found.bound others) (fold times v parts) (bound_narrow found.bound others so.1.narrow)
    (λ is. product_is v parts (like_within found.bound so.0 v (wide_within found.shape found.bound so.0 is so.1.by) so.2))

pub found_of : Expr-F Expr → Finding
found_of x = finding_step [] (map-Expr Expr Finding (finding []) x)

pub value_of : Expr-F Expr → Value
value_of x = value_step [] [] (map-Expr Expr Value (value [] []) x)

abbrev pub IsFound : Expr → Type 0
IsFound e = Stands (finding [] e) (value [] [] e)

abbrev pub Sound : Type 0
Sound = (e : Expr) × IsFound e

abbrev pub exprs : {X : Type 0} → List (X × Sound) → List (X × Expr)
exprs {X} ps = map {B = X × Expr} (λ (p : X × Sound). (p.0, p.1.0)) ps

abbrev pub findings : {X : Type 0} → List (X × Expr) → List (X × Finding)
findings {X} es = map {B = X × Finding} (λ (q : X × Expr). (q.0, finding [] q.1)) es

abbrev pub values_of : {X : Type 0} → List (X × Expr) → List (X × Value)
values_of {X} es = map {B = X × Value} (λ (q : X × Expr). (q.0, value [] [] q.1)) es

pub node : (y : Expr-F Sound) → Stands (found_of (map-Expr Sound Expr (λ (e : Sound). e.0) y)) (value_of (map-Expr Sound Expr (λ (e : Sound). e.0) y))
unfolding found_of value_of
node (Expr-F.Number n) = stands (number_finding n) (value.Int n) (value.Int n) (number_agrees n) tt
node (Expr-F.Text bytes) = (value.Bytes bytes, text_agrees bytes, refl)
node (Expr-F.Hex bytes) = (value.Bytes bytes, record { by = tt; narrow = omega arith }, refl)
node (Expr-F.Date day) = stands (date_finding day) (day_or_null day) (day_or_null day) (date_agrees day) (like_self (day_or_null day))
node Expr-F.Null = (value.Null, record { by = tt; narrow = omega arith }, tt)
node (Expr-F.Column name) = tt
node (Expr-F.Neg part) = neg_stands (finding [] part.0) (value [] [] part.0) part.1
node (Expr-F.Sum parts) =
    sum_stands (all_found (map (λ (part : Bool × Finding). part.1) (findings (exprs parts)))) (fold plus (value.Int (pos 0)) (values_of (exprs parts))) (sum_is (value.Int (pos 0)) (values_of (exprs parts)) tt)
node (Expr-F.Product first parts) = product_stands (finding [] first.0) (all_found (map (λ (part : Op × Finding). beside part.0 part.1) (findings (exprs parts)))) (value [] [] first.0) (values_of (exprs parts)) first.1
node (Expr-F.Call f part) = call_stands f (finding [] part.0) (value [] [] part.0) part.1

pub found_so : (e : Expr) → IsFound e
unfolding found_of value_of
found_so = ind-Expr IsFound (λ x y is.
    subst (λ (r : Finding). Stands r (value [] [] (roll-Expr x))) (sym (fold-roll-Expr Finding (finding_step []) x))
    (subst (λ (v : Value). Stands (found_of x) v) (sym (fold-roll-Expr Value (value_step [] []) x))
    (subst (λ (z : Expr-F Expr). Stands (found_of z) (value_of z)) is (node y))))

pub of_kinds : (r : Result ExprKind CheckFault) (w v : Value) → IsLike w v → IfOk r (λ kind. HasKind kind w) → IfOk r (λ kind. IsOfKind kind v)
of_kinds (Ok kind) w v like has = like_kind kind w v like has
of_kinds (Err fault) w v like has = tt

-- a text that is the whole expression may stand for a date
pub whole_kept : (e : Expr) (date : Bool) → IfOk (checked [] e date) (λ kind. IsOfKind kind (whole_value [] e date []))
whole_kept e date = by_finding (finding [] e) refl (found_so e)
  where
    by_finding : (r : Finding) → finding [] e ≡ r → Stands r (value [] [] e) → IfOk (checked [] e date) (λ kind. IsOfKind kind (whole_value [] e date []))
    by_finding (Ok found) is so =
        of_kinds (checked [] e date) (wanted date (out-Expr e) so.0) (whole_value [] e date []) (like_wanted date (out-Expr e) so.0 (value [] [] e) so.2)
        (kind_holds [] e date so.0 (subst (λ (r : Finding). IfOk r (λ found. Agrees found so.0)) (sym is) so.1))
    by_finding (Err fault) is so = subst (λ (r : Finding). IfOk (after r (λ found. kind_finding date found.shape)) (λ kind. IsOfKind kind (whole_value [] e date []))) (sym is) tt

-- ---- an item

pub of_kind : (k : Kind) (kind : ExprKind) (v : Value) → has_kind k kind ≡ true → IsOfKind kind v → is_of_kind k v ≡ true
of_kind k kind value.Null has so = refl
of_kind k expr.Any (value.Int n) has so = absurd so
of_kind k expr.Day (value.Int n) has so = absurd so
of_kind k expr.Bytes (value.Int n) has so = absurd so
of_kind kind.Int expr.Wide (value.Int n) has so = refl
of_kind kind.BigInt expr.Wide (value.Int n) has so = refl
of_kind kind.Date expr.Wide (value.Int n) has so = has
of_kind (kind.Binary most) expr.Wide (value.Int n) has so = has
of_kind k expr.Any (value.Day day) has so = absurd so
of_kind k expr.Wide (value.Day day) has so = absurd so
of_kind k expr.Bytes (value.Day day) has so = absurd so
of_kind kind.Int expr.Day (value.Day day) has so = has
of_kind kind.BigInt expr.Day (value.Day day) has so = has
of_kind kind.Date expr.Day (value.Day day) has so = refl
of_kind (kind.Binary most) expr.Day (value.Day day) has so = has
of_kind k expr.Any (value.Bytes bytes) has so = absurd so
of_kind k expr.Wide (value.Bytes bytes) has so = absurd so
of_kind k expr.Day (value.Bytes bytes) has so = absurd so
of_kind kind.Int expr.Bytes (value.Bytes bytes) has so = has
of_kind kind.BigInt expr.Bytes (value.Bytes bytes) has so = has
of_kind kind.Date expr.Bytes (value.Bytes bytes) has so = has
of_kind (kind.Binary most) expr.Bytes (value.Bytes bytes) has so = refl

pub finding_valid : (less : Bool) (k : Kind) (v : Value) (r : Result ExprKind CheckFault) → is_wrong_finding less k v r ≡ false → is_wide_finding r ≡ false → is_out_finding k v r ≡ false
    → IfOk r (λ kind. IsOfKind kind v) → ((not (is_of_kind k v) || less && is_null v) ≡ false) × (not (is_in_range k v) ≡ false)
finding_valid less k v (Ok kind) wrong wide out so =
    let parts = or_parts _ _ wrong in
    (or_from _ _ (ap not (of_kind k kind v (not-false _ parts.0) so)) parts.1, out)
finding_valid less k v (Err fault.Mismatch) wrong wide out so = absurd (true≢false wrong)
finding_valid less k v (Err (fault.NoColumn name)) wrong wide out so = absurd (true≢false wrong)
finding_valid less k v (Err fault.TooWide) wrong wide out so = absurd (true≢false wide)
finding_valid less k v (Err fault.BadDate) wrong wide out so = absurd (true≢false out)

pub item_valid : (less : Bool) (k : Kind) (item : BoundSpec) → is_wrong_item less k item ≡ false → is_wide_item k item ≡ false → is_out_item k item ≡ false
    → (is_wrong_bound less k (bound_of k item) ≡ false) × (is_bound_out k (bound_of k item) ≡ false)
item_valid less k written.Max wrong wide out = (wrong, refl)
item_valid less k (written.Value e) wrong wide out = finding_valid less k (worth k e) (item_finding k e) (or_parts _ _ wrong).1 wide out (whole_kept e (is_date k))

-- ---- a tuple, and the tuples

pub items_valid : (less : Bool) (kinds : List Kind) (items : List BoundSpec)
    → has_item (is_wrong_item less) kinds items ≡ false → has_item is_wide_item kinds items ≡ false → has_item is_out_item kinds items ≡ false
    → (has_bound (is_wrong_bound less) kinds (tuple_of kinds items) ≡ false) × (has_bound is_bound_out kinds (tuple_of kinds items) ≡ false)
items_valid less (k ∷ kinds) (item ∷ items) wrong wide out =
    let wrongs = or_parts _ _ wrong in
    let wides = or_parts _ _ wide in
    let outs = or_parts _ _ out in
    let first = item_valid less k item wrongs.0 wides.0 outs.0 in
    let rest = items_valid less kinds items wrongs.1 wides.1 outs.1 in
    (or_from _ _ first.0 rest.0, or_from _ _ first.1 rest.1)
items_valid less (k ∷ kinds) [] wrong wide out = (refl, refl)
items_valid less [] items wrong wide out = (refl, refl)

pub tuple_length : (kinds : List Kind) (items : List BoundSpec) → length items ≡ length kinds → length (tuple_of kinds items) ≡ length kinds
tuple_length [] items same = refl
tuple_length (k ∷ kinds) [] same = absurd (omega (arith, same))
tuple_length (k ∷ kinds) (item ∷ items) same = ap suc (tuple_length kinds items (omega (arith, same)))

pub counts_same : (kinds : List Kind) (items : List BoundSpec) → not (length items == length kinds) ≡ false → not (length (tuple_of kinds items) == length kinds) ≡ false
counts_same kinds items e = ap not (eq-eqb _ _ (tuple_length kinds items (eqb-true _ _ (not-false _ e))))

pub tuples_valid : (less : Bool) (kinds : List Kind) (tuples : List (List BoundSpec))
    → list_any (is_wrong_written less kinds) tuples ≡ false → list_any (has_item is_wide_item kinds) tuples ≡ false → list_any (has_item is_out_item kinds) tuples ≡ false
    → (list_any (is_wrong_tuple less kinds) (map (tuple_of kinds) tuples) ≡ false) × (list_any (has_bound is_bound_out kinds) (map (tuple_of kinds) tuples) ≡ false)
tuples_valid less kinds [] wrong wide out = (refl, refl)
tuples_valid less kinds (tuple ∷ tuples) wrong wide out =
    let wrongs = or_parts _ _ wrong in
    let wides = or_parts _ _ wide in
    let outs = or_parts _ _ out in
    let form = or_parts _ _ wrongs.0 in
    let first = items_valid less kinds tuple form.1 wides.0 outs.0 in
    let rest = tuples_valid less kinds tuples wrongs.1 wides.1 outs.1 in
    (or_from _ _ (or_from _ _ (counts_same kinds tuple form.0) first.0) rest.0, or_from _ _ first.1 rest.1)

-- ---- how many tuples

pub one_there : {A : Type 0} (x : A) (xs : List A) → x ∷ [] ≡ xs → (length xs == 1) ≡ true
one_there x xs same = eq-eqb (length xs) 1 (sym (ap length same))

pub some_there : {A B : Type 0} (f : A → B) (xs : List A) (ys : List B) → map f xs ≡ ys → 1 ≤ length xs → not (length ys == 0) ≡ true
some_there f xs ys same some =
    let counted : length ys ≡ length xs = sym (ap length same) ∙ length-map xs f in
    ap not (ne_eqb (length ys) 0 (λ is. omega (arith, some, counted, is)))

pub range_count : (own : Option ValuesSpec) (tuples : List (List BoundSpec)) → range_tuples own ≡ Some tuples → (length tuples == 1) ≡ true
range_count None tuples is = absurd (cc)
range_count (Some values.LessMax) tuples is = one_there (written.Max ∷ []) tuples cc
range_count (Some (values.Less items)) tuples is = one_there items tuples cc
range_count (Some (values.Among entries)) tuples is = absurd (cc)

pub list_count : (own : Option ValuesSpec) (tuples : List (List BoundSpec)) → list_tuples own ≡ Some tuples → IfSome own IsStorableValues → not (length tuples == 0) ≡ true
list_count None tuples is so = absurd (cc)
list_count (Some values.LessMax) tuples is so = absurd (cc)
list_count (Some (values.Less items)) tuples is so = absurd (cc)
list_count (Some (values.Among entries)) tuples is so = some_there entry_items entries tuples (cc) so.0.0

pub none_there : (own : Option ValuesSpec) (tuples : List (List BoundSpec)) → no_tuples own ≡ Some tuples → (length tuples == 0) ≡ true
none_there None tuples is = let same : [] ≡ tuples = cc in eq-eqb (length tuples) 0 (sym (ap length same))
none_there (Some values.LessMax) tuples is = absurd (cc)
none_there (Some (values.Less items)) tuples is = absurd (cc)
none_there (Some (values.Among entries)) tuples is = absurd (cc)

pub count_valid : (own : PartBy) (values : Option ValuesSpec) (tuples : List (List BoundSpec)) → tuples_in own values ≡ Some tuples → IfSome values IsStorableValues → is_tuple_count own (length tuples) ≡ true
count_valid by.Whole values tuples is so = none_there values tuples is
count_valid (by.Range e) values tuples is so = range_count values tuples is
count_valid (by.List e) values tuples is so = list_count values tuples is so
count_valid (by.RangeColumns numbers) values tuples is so = range_count values tuples is
count_valid (by.ListColumns numbers) values tuples is so = list_count values tuples is so
count_valid (by.Hash linear e) values tuples is so = none_there values tuples is
count_valid (by.Key linear numbers) values tuples is so = none_there values tuples is

-- ---- partitions

module _ (table : List ℕ) (kinds : List Kind) (own : PartBy) (sub : Option SubSpec) (count : ℕ) where
  part_valid : (part : PartItem) → IfSome part.values IsStorableValues → bad_written_values table kinds own part ≡ None → bad_values kinds own (part_in kinds own sub count part) ≡ None
  part_valid part so none = by_tuples (tuples_in own part.values) refl none
    where
      by_tuples : (o : Option (List (List BoundSpec))) → tuples_in own part.values ≡ o → bad_tuples table kinds (is_range own) part.name o ≡ None → bad_values kinds own (part_in kinds own sub count part) ≡ None
      by_tuples None is e = absurd (cc)
      by_tuples (Some tuples) is e =
          let made : bounds_of kinds own part.values ≡ map (tuple_of kinds) tuples = ap (λ (o : Option (List (List BoundSpec))). option_map_or (λ ts. map (tuple_of kinds) ts) o []) is in
          let good = tuples_valid (is_range own) kinds tuples (passes _ _ (none_first _ _ e)) (passes _ _ (none_first _ _ (none_next _ _ e))) (passes _ _ (none_first _ _ (none_next _ _ (none_next _ _ e)))) in
          rw made (both_none _ _
          (not_refused _ (refusal.WrongValues part.name) (or_from _ _ (ap not (ap (is_tuple_count own) (length-map tuples (tuple_of kinds)) ∙ count_valid own part.values tuples is so)) good.0))
          (both_none _ _ (not_refused _ (refusal.OutOfRange (arg.Name part.name)) good.1) refl))

  items_pass : (items : List PartItem) → All IsStorablePart items → first_in (bad_written_values table kinds own) items ≡ None → first_in (bad_values kinds own) (map (part_in kinds own sub count) items) ≡ None
  items_pass [] so none = refl
  items_pass (item ∷ items) so none =
      both_none _ _ (part_valid item (All-head IsStorablePart item items so).values (none_first _ _ none)) (items_pass items (All-tail IsStorablePart item items so) (none_next _ _ none))

  made_pass : (ns : List ℕ) → is_tuple_count own 0 ≡ true → first_in (bad_values kinds own) (map (part_made sub count) ns) ≡ None
  made_pass [] is = refl
  made_pass (n ∷ ns) is =
      both_none _ _
      (both_none _ _ (not_refused _ (refusal.WrongValues (part_made sub count n).name) (or_from _ _ (ap not is) refl)) refl)
      (made_pass ns is)

  pub values_valid : (parts : Option (List PartItem)) (ns : List ℕ) → IfSome parts AreStorableParts → (parts ≡ None → is_tuple_count own 0 ≡ true)
      → first_in (bad_written_values table kinds own) (option_map_or (λ (items : List PartItem). items) parts []) ≡ None
      → first_in (bad_values kinds own) (option_map_or (λ items. map (part_in kinds own sub count) items) parts (map (part_made sub count) ns)) ≡ None
  values_valid None ns so is none = made_pass ns (is refl)
  values_valid (Some items) ns so is none = items_pass items so.1 none

-- partitions that are only counted have no VALUES
pub hash_count : (columns : List Column) (instead : List ℕ) (own : HashSpec) → is_tuple_count (by_hash columns instead own) 0 ≡ true
hash_count columns instead (hash.Hash linear e) = refl
hash_count columns instead (hash.Key linear []) = refl
hash_count columns instead (hash.Key linear (name ∷ names)) = refl

pub counted_none : (columns : List Column) (keys : List KeyDef) (own : MainSpec) → needs_parts own ≡ false → is_tuple_count (by_of columns keys own) 0 ≡ true
counted_none columns keys (main.Range e) is = absurd (true≢false is)
counted_none columns keys (main.List e) is = absurd (true≢false is)
counted_none columns keys (main.RangeColumns names) is = absurd (true≢false is)
counted_none columns keys (main.ListColumns names) is = absurd (true≢false is)
counted_none columns keys (main.Hash own) is = hash_count columns _ own
