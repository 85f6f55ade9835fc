-- Sums, products, functions and signs give numbers.
use Rattle.std.proofs.Common.{◌≡◌, ℕ, Bool, true, false, List, Result, Ok, Err, IfOk, refl}
use Rattle.std.specs.Prelude.{if◌then◌else◌, ◌&&◌, sum_by}
use Rattle.std.specs.List.{list_all}
use Rattle.pt_ast.specs.declared.tree.Func.{Func}
use Rattle.pt_ast.specs.declared.tree.Func.TheVariants as func
use Rattle.pt_ast.specs.declared.tree.Op.{Op}
use Rattle.pt_expr.specs.declared.kind.CheckFault.{CheckFault}
use Rattle.pt_expr.specs.declared.kind.CheckFault.TheVariants.{Mismatch, BadDate}
use Rattle.pt_expr.specs.declared.found.Shape.{Shape}
use Rattle.pt_expr.specs.declared.found.Shape.TheVariants as shape
use Rattle.pt_expr.specs.declared.found.Found.{Found}
use Rattle.pt_expr.specs.Found.{Finding, after, call_finding, day_part, may_be_wide, narrow, negated, negation, number_found, product_bound, product_finding, signed, sum_finding, takes, wide}

abbrev pub is_number : Shape → Bool
is_number shape.Number = true
is_number shape.Signed = true
is_number shape.Wide = true
is_number _ = false

-- it is found to be a number, where it has no fault
pub record IsNumeric (r : Finding) : Type 0 where
  pub holds : IfOk r (λ found. is_number found.shape ≡ true)

pub numeric_after : {A : Type 0} (r : Result A CheckFault) (k : A → Finding) → ((x : A) → IsNumeric (k x)) → IsNumeric (after r k)
numeric_after (Ok x) k h = h x
numeric_after (Err fault) k h = record { holds = tt }

numeric_cond : (b : Bool) (a z : Finding) → IsNumeric a → IsNumeric z → IsNumeric (if b then a else z)
numeric_cond true a z p q = p
numeric_cond false a z p q = q

fault_numeric : (fault : CheckFault) → IsNumeric (Err fault)
fault_numeric fault = record { holds = tt }

wide_numeric : (bound : ℕ) → IsNumeric (Ok (wide bound))
wide_numeric bound = record { holds = refl }

pub number_numeric : (bound : ℕ) → IsNumeric (Ok (number_found bound))
number_numeric bound = record { holds = refl }

signed_number : (s : Shape) → is_number (signed s) ≡ true
signed_number shape.Number = refl
signed_number shape.Null = refl
signed_number shape.Signed = refl
signed_number shape.Wide = refl
signed_number shape.Day = refl
signed_number shape.DayText = refl
signed_number shape.OtherText = refl
signed_number shape.Bytes = refl

pub negation_numeric : (part : Found) → IsNumeric (negation part)
negation_numeric part = numeric_cond (may_be_wide part.shape) (Ok (negated part)) (Err Mismatch) (record { holds = signed_number part.shape }) (fault_numeric Mismatch)

pub sum_numeric : (parts : List Found) → IsNumeric (sum_finding parts)
sum_numeric parts =
    numeric_cond (list_all (λ (part : Found). may_be_wide part.shape) parts) (after (narrow (sum_by (λ (part : Found). part.bound) parts)) (λ bound. Ok (wide bound))) (Err Mismatch)
    (numeric_after (narrow (sum_by (λ (part : Found). part.bound) parts)) (λ bound. Ok (wide bound)) wide_numeric) (fault_numeric Mismatch)

pub product_numeric : (found : Found) (parts : List (Op × Found)) → IsNumeric (product_finding found parts)
product_numeric found parts =
    numeric_cond (may_be_wide found.shape && list_all (λ (part : Op × Found). takes part.0 part.1) parts) (after (product_bound found.bound parts) (λ bound. Ok (wide bound))) (Err Mismatch)
    (numeric_after (product_bound found.bound parts) (λ bound. Ok (wide bound)) wide_numeric) (fault_numeric Mismatch)

day_part_numeric : (bound : ℕ) (s : Shape) → IsNumeric (day_part bound s)
day_part_numeric bound shape.Null = wide_numeric bound
day_part_numeric bound shape.Number = fault_numeric Mismatch
day_part_numeric bound shape.Signed = fault_numeric Mismatch
day_part_numeric bound shape.Wide = fault_numeric Mismatch
day_part_numeric bound shape.Day = wide_numeric bound
day_part_numeric bound shape.DayText = wide_numeric bound
day_part_numeric bound shape.OtherText = fault_numeric BadDate
day_part_numeric bound shape.Bytes = fault_numeric Mismatch

pub call_numeric : (f : Func) (part : Found) → IsNumeric (call_finding f part)
call_numeric func.Abs part = numeric_cond (may_be_wide part.shape) (Ok (wide part.bound)) (Err Mismatch) (wide_numeric part.bound) (fault_numeric Mismatch)
call_numeric func.Year part = day_part_numeric 9999 part.shape
call_numeric func.Month part = day_part_numeric 12 part.shape
call_numeric func.DayOfMonth part = day_part_numeric 31 part.shape
call_numeric func.DayOfYear part = day_part_numeric 366 part.shape
call_numeric func.DayOfWeek part = day_part_numeric 7 part.shape
call_numeric func.Weekday part = day_part_numeric 6 part.shape
call_numeric func.Quarter part = day_part_numeric 4 part.shape
call_numeric func.ToDays part = day_part_numeric 3_652_424 part.shape
