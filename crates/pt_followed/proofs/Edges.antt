-- A tuple between bounds, by its first item.
use Rattle.std.proofs.Common.{◌≡◌, true, false, ◌&&◌, ◌||◌, List, [], ◌∷◌, map, Option, Some, None, refl, ap, ◌∙◌}
use Rattle.std.specs.Prelude.{not}
use Rattle.std.specs.declared.cmp.Ordering.{Ordering}
use Rattle.std.specs.declared.cmp.Ordering.TheVariants.{Less, Equal, Greater}
use Rattle.std.specs.Ordering.{is_eq, is_ge, is_gt, is_lt, ordering_reverse, ordering_then}
use Rattle.pt_value.specs.Value.{value_cmp, value_cmp_total}
use Rattle.pt_value.specs.declared.value.Value.{Value}
use Rattle.pt_value.specs.declared.value.Value.TheVariants.{Null, Int, Day, Bytes}
use Rattle.pt_value.proofs.Order.{value_cmp-Equal}
use Rattle.pt_ast.specs.declared.table.Bound.{Bound}
use Rattle.pt_ast.specs.declared.table.Bound.TheVariants.{Val}
use Rattle.pt_ast.specs.Bounds.{bound_cmp, tuple_cmp}
use Rattle.pt_followed.specs.Steps.{behind, is_before, is_below, is_from, is_past, is_tied}

from_then : (o p : Ordering) → not (is_gt (ordering_then o p)) ≡ (is_lt o || (is_eq o && not (is_gt p)))
from_then Less p = refl
from_then Equal p = refl
from_then Greater p = refl

below_then : (o p : Ordering) → is_gt (ordering_then o p) ≡ (is_gt o || (is_eq o && is_gt p))
below_then Less p = refl
below_then Equal p = refl
below_then Greater p = refl

pub from_first : (low : Option (List Bound)) (v : Value) (vs : List Value) → is_from low (v ∷ vs) ≡ (is_past low v || (is_tied low v && is_from (behind low) vs))
from_first None v vs = refl
from_first (Some []) v vs = refl
from_first (Some (bound ∷ bounds)) v vs = from_then (bound_cmp bound (Val v)) (tuple_cmp bounds (map Val vs))

pub below_first : (high : Option (List Bound)) (v : Value) (vs : List Value) → is_below high (v ∷ vs) ≡ (is_before high v || (is_tied high v && is_below (behind high) vs))
below_first None v vs = refl
below_first (Some []) v vs = refl
below_first (Some (bound ∷ bounds)) v vs = below_then (bound_cmp bound (Val v)) (tuple_cmp bounds (map Val vs))

-- ---- a value and a constant, turned round

lt_turned : (o : Ordering) → is_gt (ordering_reverse o) ≡ is_lt o
lt_turned Less = refl
lt_turned Equal = refl
lt_turned Greater = refl

gt_turned : (o : Ordering) → is_lt (ordering_reverse o) ≡ is_gt o
gt_turned Less = refl
gt_turned Equal = refl
gt_turned Greater = refl

eq_turned : (o : Ordering) → is_eq (ordering_reverse o) ≡ is_eq o
eq_turned Less = refl
eq_turned Equal = refl
eq_turned Greater = refl

pub above_it : (v k : Value) → is_gt (value_cmp v k) ≡ is_lt (value_cmp k v)
above_it v k = ap is_gt (value_cmp_total.antisymm v k) ∙ lt_turned (value_cmp k v)

pub below_it : (v k : Value) → is_lt (value_cmp v k) ≡ is_gt (value_cmp k v)
below_it v k = ap is_lt (value_cmp_total.antisymm v k) ∙ gt_turned (value_cmp k v)

pub equal_to_it : (v k : Value) → is_eq (value_cmp v k) ≡ is_eq (value_cmp k v)
equal_to_it v k = ap is_eq (value_cmp_total.antisymm v k) ∙ eq_turned (value_cmp k v)

pub null_lowest : (v : Value) → is_ge (value_cmp v Null) ≡ true
unfolding value_cmp
null_lowest Null = refl
null_lowest (Int n) = refl
null_lowest (Day day) = refl
null_lowest (Bytes bytes) = refl

pub none_lower : (v : Value) → is_lt (value_cmp v Null) ≡ false
unfolding value_cmp
none_lower Null = refl
none_lower (Int n) = refl
none_lower (Day day) = refl
none_lower (Bytes bytes) = refl

pub tie_told : (o : Ordering) → is_eq o ≡ true → o ≡ Equal
tie_told Less e = cc
tie_told Equal e = refl
tie_told Greater e = cc

pub one_value : (v k : Value) → is_eq (value_cmp v k) ≡ true → v ≡ k
one_value v k e = value_cmp-Equal v k (tie_told (value_cmp v k) e)
