-- The value of a well-typed expression is of its kind.
use Rattle.std.proofs.Common.{◌≡◌, ℕ, ◌<◌, ◌^◌, Bool, true, false, List, map, Option, Some, None, Ok, Err, IfOk, refl, sym, subst, arith, ℤ}
use Rattle.std.specs.Prelude.{if◌then◌else◌, unsigned_abs, IsOk}
use Rattle.pt_value.specs.declared.value.Value.{Value}
use Rattle.pt_value.specs.declared.value.Value.TheVariants as value
use Rattle.pt_value.specs.declared.value.Kind.{Kind}
use Rattle.pt_value.specs.declared.value.Kind.TheVariants as kind
use Rattle.pt_ast.specs.declared.table.Column.{Column}
use Rattle.pt_ast.specs.declared.tree.Op.{Op}
use Rattle.pt_ast.specs.declared.tree.Expr.{Expr, map-Expr}
use Rattle.pt_ast.specs.declared.tree.Expr.TheOpen.{Expr-F}
use Rattle.pt_ast.specs.declared.tree.Expr.TheViews.{out-Expr}
use Rattle.pt_ast.specs.declared.tree.Expr.TheFolds.{fold_out-Expr}
use Rattle.pt_expr.specs.declared.kind.ExprKind.TheVariants as expr
use Rattle.pt_expr.specs.declared.kind.CheckFault.TheVariants.{BadDate}
use Rattle.pt_expr.specs.declared.found.Shape.{Shape}
use Rattle.pt_expr.specs.declared.found.Shape.TheVariants as shape
use Rattle.pt_expr.specs.Agrees.{Agrees, AgreesBy, IsDayText}
use Rattle.pt_expr.specs.Found.{Finding, after, all_found, beside, call_finding, checked, column_finding, column_found, date_finding, finding, finding_step, kind_finding, kind_of, narrow, negation, number_found, other, product_finding, sum_finding, text_shape}
use Rattle.pt_value.specs.Fits.{fits_date}
use Rattle.pt_expr.specs.Columns.{column_named}
use Rattle.pt_expr.specs.Kinds.{HasKind}
use Rattle.pt_value.specs.Text.{day_of}
use Rattle.pt_expr.specs.Values.{as_day, day_or_null, wanted}
use Rattle.pt_expr.proofs.Numbers.{IsNumeric, call_numeric, is_number, negation_numeric, number_numeric, numeric_after, product_numeric, sum_numeric}
use Rattle.pt_value.proofs.Spelled.{day_of-spells}

-- ---- only a text is found to be one

is_text_shape : Shape → Bool
is_text_shape shape.Null = false
is_text_shape shape.Number = false
is_text_shape shape.Signed = false
is_text_shape shape.Wide = false
is_text_shape shape.Day = false
is_text_shape shape.DayText = true
is_text_shape shape.OtherText = true
is_text_shape shape.Bytes = false

record NoText (r : Finding) : Type 0 where
  none : IfOk r (λ found. is_text_shape found.shape ≡ false)

number_no_text : (s : Shape) → is_number s ≡ true → is_text_shape s ≡ false
unfolding is_text_shape
number_no_text shape.Null h = refl
number_no_text shape.Number h = refl
number_no_text shape.Signed h = refl
number_no_text shape.Wide h = refl
number_no_text shape.Day h = refl
number_no_text shape.DayText h = absurd (cc)
number_no_text shape.OtherText h = absurd (cc)
number_no_text shape.Bytes h = refl

numeric_none : (r : Finding) → IsNumeric r → NoText r
numeric_none (Ok found) h = record { none = number_no_text found.shape h.holds }
numeric_none (Err fault) h = record { none = tt }

kind_none : (k : Kind) → is_text_shape (column_found k).shape ≡ false
unfolding is_text_shape
kind_none kind.Int = refl
kind_none kind.BigInt = refl
kind_none kind.Date = refl
kind_none (kind.Binary most) = refl

column_none : (name : List ℕ) (o : Option Column) → NoText (column_finding name o)
column_none name (Some column) = record { none = kind_none column.kind }
column_none name None = record { none = tt }

fit_none : (b : Bool) → NoText (if b then Ok (other shape.Day) else Err BadDate)
unfolding is_text_shape
fit_none true = record { none = refl }
fit_none false = record { none = tt }

date_none : (o : Option ℤ) → NoText (date_finding o)
date_none (Some day) = fit_none (fits_date day)
date_none None = record { none = tt }

-- ---- the kind of a value

own_kind : (s : Shape) (b : ℕ) (v : Value) → b < 2 ^ 126 → AgreesBy s b v → HasKind (kind_of s) v
own_kind s b value.Null h a = tt
own_kind shape.Null b (value.Int n) h a = absurd a
own_kind shape.Number b (value.Int n) h a = omega arith
own_kind shape.Signed b (value.Int n) h a = omega arith
own_kind shape.Wide b (value.Int n) h a = omega arith
own_kind shape.Day b (value.Int n) h a = absurd a
own_kind shape.DayText b (value.Int n) h a = absurd a
own_kind shape.OtherText b (value.Int n) h a = absurd a
own_kind shape.Bytes b (value.Int n) h a = absurd a
own_kind shape.Null b (value.Day day) h a = absurd a
own_kind shape.Number b (value.Day day) h a = absurd a
own_kind shape.Signed b (value.Day day) h a = absurd a
own_kind shape.Wide b (value.Day day) h a = absurd a
own_kind shape.Day b (value.Day day) h a = a
own_kind shape.DayText b (value.Day day) h a = absurd a
own_kind shape.OtherText b (value.Day day) h a = absurd a
own_kind shape.Bytes b (value.Day day) h a = absurd a
own_kind shape.Null b (value.Bytes bytes) h a = absurd a
own_kind shape.Number b (value.Bytes bytes) h a = absurd a
own_kind shape.Signed b (value.Bytes bytes) h a = absurd a
own_kind shape.Wide b (value.Bytes bytes) h a = absurd a
own_kind shape.Day b (value.Bytes bytes) h a = absurd a
own_kind shape.DayText b (value.Bytes bytes) h a = tt
own_kind shape.OtherText b (value.Bytes bytes) h a = tt
own_kind shape.Bytes b (value.Bytes bytes) h a = tt

spelled_kind : (v : Value) → IsDayText v → HasKind expr.Day (as_day v)
spelled_kind value.Null a = absurd a
spelled_kind (value.Int n) a = absurd a
spelled_kind (value.Day day) a = absurd a
spelled_kind (value.Bytes bytes) a = by_day (day_of bytes) refl
  where
    by_day : (o : Option ℤ) → day_of bytes ≡ o → HasKind expr.Day (day_or_null o)
    by_day (Some day) e = let spelled = day_of-spells bytes day e in spelled.fits
    by_day None e = tt

-- no date is wanted
own_kinds : (s : Shape) (b : ℕ) (v : Value) → b < 2 ^ 126 → AgreesBy s b v → IfOk (kind_finding false s) (λ kind. HasKind kind v)
own_kinds s b v h a = own_kind s b v h a

-- what is no text stays what it is
other_kinds : (s : Shape) (b : ℕ) (v : Value) → b < 2 ^ 126 → is_text_shape s ≡ false → AgreesBy s b v → IfOk (kind_finding true s) (λ kind. HasKind kind v)
unfolding is_text_shape
other_kinds shape.Null b v h none a = own_kind shape.Null b v h a
other_kinds shape.Number b v h none a = own_kind shape.Number b v h a
other_kinds shape.Signed b v h none a = own_kind shape.Signed b v h a
other_kinds shape.Wide b v h none a = own_kind shape.Wide b v h a
other_kinds shape.Day b v h none a = own_kind shape.Day b v h a
other_kinds shape.DayText b v h none a = absurd (cc)
other_kinds shape.OtherText b v h none a = tt
other_kinds shape.Bytes b v h none a = own_kind shape.Bytes b v h a

of_other : (r : Finding) (v : Value) (date : Bool) → NoText r → IfOk r (λ found. Agrees found v) → IfOk (after r (λ found. kind_finding date found.shape)) (λ kind. HasKind kind v)
of_other (Ok found) v true h a = other_kinds found.shape found.bound v a.narrow h.none a.by
of_other (Ok found) v false h a = own_kinds found.shape found.bound v a.narrow a.by
of_other (Err fault) v date h a = tt

of_text : (o : Option ℤ) (v : Value) (date : Bool) (bytes : List ℕ) → Agrees (other (text_shape o)) v → IfOk (kind_finding date (text_shape o)) (λ kind. HasKind kind (wanted date (Expr-F.Text bytes) v))
of_text (Some day) v true bytes a = spelled_kind v a.by
of_text (Some day) v false bytes a = own_kind shape.DayText 0 v a.narrow a.by
of_text None v true bytes a = tt
of_text None v false bytes a = own_kind shape.OtherText 0 v a.narrow a.by

stays : (x : Expr-F Expr) (v : Value) (date : Bool) → wanted true x v ≡ v → v ≡ wanted date x v
stays x v true same = sym same
stays x v false same = refl

of_node : (x : Expr-F Expr) (r : Finding) (v : Value) (date : Bool) → wanted true x v ≡ v → NoText r → IfOk r (λ found. Agrees found v)
    → IfOk (after r (λ found. kind_finding date found.shape)) (λ kind. HasKind kind (wanted date x v))
of_node x r v date same none a =
    subst (λ (w : Value). IfOk (after r (λ found. kind_finding date found.shape)) (λ kind. HasKind kind w)) (stays x v date same) (of_other r v date none a)

mapped : List Column → Expr-F Expr → Expr-F Finding
mapped columns x = map-Expr Expr Finding (finding columns) x

null_none : NoText (Ok (other shape.Null))
unfolding is_text_shape
null_none = record { none = refl }

bytes_none : NoText (Ok (other shape.Bytes))
unfolding is_text_shape
bytes_none = record { none = refl }

of_layer : (columns : List Column) (x : Expr-F Expr) (v : Value) (date : Bool) → IfOk (finding_step columns (mapped columns x)) (λ found. Agrees found v)
    → IfOk (after (finding_step columns (mapped columns x)) (λ found. kind_finding date found.shape)) (λ kind. HasKind kind (wanted date x v))
unfolding mapped
of_layer columns (Expr-F.Number n) v date a = of_node (Expr-F.Number n) _ v date refl (numeric_none _ (numeric_after (narrow (unsigned_abs n)) (λ bound. Ok (number_found bound)) number_numeric)) a
of_layer columns (Expr-F.Text bytes) v date a = of_text (day_of bytes) v date bytes a
of_layer columns (Expr-F.Hex bytes) v date a = of_node (Expr-F.Hex bytes) _ v date refl bytes_none a
of_layer columns (Expr-F.Date day) v date a = of_node (Expr-F.Date day) _ v date refl (date_none day) a
of_layer columns Expr-F.Null v date a = of_node Expr-F.Null _ v date refl null_none a
of_layer columns (Expr-F.Column name) v date a = of_node (Expr-F.Column name) _ v date refl (column_none name (column_named name columns)) a
of_layer columns (Expr-F.Neg part) v date a = of_node (Expr-F.Neg part) _ v date refl (numeric_none _ (numeric_after (finding columns part) negation negation_numeric)) a
of_layer columns (Expr-F.Sum parts) v date a =
    of_node (Expr-F.Sum parts) _ v date refl
    (numeric_none _ (numeric_after (all_found (map (λ (part : Bool × Finding). part.1) (map (λ (part : Bool × Expr). (part.0, finding columns part.1)) parts))) sum_finding sum_numeric)) a
of_layer columns (Expr-F.Product first parts) v date a =
    of_node (Expr-F.Product first parts) _ v date refl
    (numeric_none _ (numeric_after (finding columns first) _ (λ found. numeric_after (all_found (map (λ (part : Op × Finding). beside part.0 part.1) (map (λ (part : Op × Expr). (part.0, finding columns part.1)) parts))) (product_finding found) (product_numeric found)))) a
of_layer columns (Expr-F.Call f part) v date a = of_node (Expr-F.Call f part) _ v date refl (numeric_none _ (numeric_after (finding columns part) (call_finding f) (call_numeric f))) a

-- the value of a whole expression is of the kind that `checked` gives
pub kind_holds : (columns : List Column) (expr : Expr) (date : Bool) (v : Value) → IfOk (finding columns expr) (λ found. Agrees found v)
    → IfOk (checked columns expr date) (λ kind. HasKind kind (wanted date (out-Expr expr) v))
unfolding mapped
kind_holds columns expr date v a =
    let opened = fold_out-Expr Finding (finding_step columns) expr in
    subst (λ (r : Finding). IfOk (after r (λ found. kind_finding date found.shape)) (λ kind. HasKind kind (wanted date (out-Expr expr) v))) (sym opened)
    (of_layer columns (out-Expr expr) v date (subst (λ (r : Finding). IfOk r (λ found. Agrees found v)) opened a))

pub checked_finding : (columns : List Column) (expr : Expr) (date : Bool) → IsOk (checked columns expr date) → IsOk (finding columns expr)
checked_finding columns expr date ok = by_finding (finding columns expr) ok
  where
    by_finding : (r : Finding) → IsOk (after r (λ found. kind_finding date found.shape)) → IsOk r
    by_finding (Ok found) h = refl
    by_finding (Err fault) h = h
