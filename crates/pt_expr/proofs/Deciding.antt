-- What the truth of a condition rests on: which operands are dates, and that the parts of what is well typed are.
use Rattle.std.proofs.Common.{◌≡◌, ℕ, ◌+◌, ◌<◌, Bool, true, false, List, [], ◌∷◌, length, drop, get_or, map, Option, Some, None, Result, Ok, Err, refl, sym, ap, subst, ◌∙◌, ℤ}
use Rattle.std.specs.Prelude.{All, IsOk, is_ok, fold, if◌then◌else◌, ◌||◌, unsigned_abs}
use Rattle.std.specs.List.{list_any}
use Rattle.std.proofs.Math.Bool.{or_assoc}
use Rattle.std.proofs.lemmas.List.Elements.{All-cons, All-nil, All-tail}
use Rattle.pt_value.specs.Truth.{least, greatest}
use Rattle.pt_value.specs.declared.truth.Truth.{Truth}
use Rattle.pt_value.specs.declared.truth.Truth.TheVariants.{False, Unknown, True}
use Rattle.pt_value.specs.declared.value.Kind.{Kind}
use Rattle.pt_value.specs.declared.value.Kind.TheVariants as kind
use Rattle.pt_value.specs.declared.value.Value.{Value}
use Rattle.pt_ast.specs.declared.table.Column.{Column}
use Rattle.pt_ast.specs.declared.tree.Op.{Op}
use Rattle.pt_ast.specs.declared.tree.Expr.{Expr, map-Expr}
use Rattle.pt_ast.specs.declared.tree.Expr.TheOpen.{Expr-F}
use Rattle.pt_ast.specs.declared.tree.Expr.TheViews.{out-Expr}
use Rattle.pt_ast.specs.declared.tree.Expr.TheFolds.{fold_out-Expr}
use Rattle.pt_ast.specs.declared.tree.Cond.{Cond}
use Rattle.pt_ast.specs.declared.tree.Cond.TheOpen.{Cond-F}
use Rattle.pt_ast.specs.declared.tree.Cond.TheVariants as tree
use Rattle.pt_ast.specs.declared.tree.Cond.TheVariants.{rolls-And, rolls-In, rolls-Or}
use Rattle.pt_ast.specs.declared.tree.Cond.TheFolds.{fold-roll-Cond}
use Rattle.pt_expr.specs.declared.kind.CheckFault.{CheckFault}
use Rattle.pt_expr.specs.declared.kind.CheckFault.TheVariants.{BadDate}
use Rattle.pt_expr.specs.declared.found.Shape.{Shape}
use Rattle.pt_expr.specs.declared.found.Shape.TheVariants as shape
use Rattle.pt_expr.specs.Columns.{column_named}
use Rattle.pt_expr.specs.Found.{Finding, after, all_found, beside, call_finding, column_finding, column_found, date_finding, finding, finding_step, narrow, negation, number_found, other, product_finding, sum_finding, text_shape}
use Rattle.pt_value.specs.Fits.{fits_date}
use Rattle.pt_expr.specs.FoundCond.{Verdict, alike_verdict, all_verdict, checked_cond, is_day, verdict_step}
use Rattle.pt_value.specs.Text.{day_of}
use Rattle.pt_expr.specs.Stepping.{among_rest, is_day_column, is_day_kind, names_date}
use Rattle.pt_expr.specs.Truths.{among, among_truth, are_dates, equals, is_date, is_null, negated, operand, truth, truth_step}
use Rattle.pt_expr.proofs.Gathering.{drop_at_item}
use Rattle.pt_expr.proofs.Numbers.{IsNumeric, call_numeric, is_number, negation_numeric, number_numeric, numeric_after, product_numeric, sum_numeric}

-- ---- dates

number_no_day : (s : Shape) → is_number s ≡ true → false ≡ is_day s
number_no_day shape.Null h = refl
number_no_day shape.Number h = refl
number_no_day shape.Signed h = refl
number_no_day shape.Wide h = refl
number_no_day shape.Day h = absurd (cc)
number_no_day shape.DayText h = refl
number_no_day shape.OtherText h = refl
number_no_day shape.Bytes h = refl

numeric_no_date : (r : Finding) → IsNumeric r → false ≡ is_date r
numeric_no_date (Ok found) h = number_no_day found.shape h.holds
numeric_no_date (Err fault) h = refl

text_no_date : (o : Option ℤ) → false ≡ is_day (text_shape o)
text_no_date (Some day) = refl
text_no_date None = refl

date_is_date : (o : Option ℤ) → IsOk (date_finding o) → true ≡ is_date (date_finding o)
date_is_date (Some day) h = by_fit (fits_date day) h
  where
    by_fit : (b : Bool) → IsOk (if b then Ok (other shape.Day) else Err BadDate) → true ≡ is_date (if b then Ok (other shape.Day) else Err BadDate)
    by_fit true h = refl
    by_fit false h = absurd (cc)
date_is_date None h = absurd (cc)

kind_is_day : (k : Kind) → is_day_kind k ≡ is_day (column_found k).shape
kind_is_day kind.Int = refl
kind_is_day kind.BigInt = refl
kind_is_day kind.Date = refl
kind_is_day (kind.Binary most) = refl

column_is_date : (name : List ℕ) (o : Option Column) → is_day_column o ≡ is_date (column_finding name o)
column_is_date name (Some column) = kind_is_day column.kind
column_is_date name None = refl

mapped : List Column → Expr-F Expr → Expr-F Finding
mapped columns x = map-Expr Expr Finding (finding columns) x

layer_is_date : (columns : List Column) (x : Expr-F Expr) → IsOk (finding_step columns (mapped columns x)) → names_date columns x ≡ is_date (finding_step columns (mapped columns x))
unfolding mapped
layer_is_date columns (Expr-F.Number n) h = numeric_no_date _ (numeric_after (narrow (unsigned_abs n)) (λ bound. Ok (number_found bound)) number_numeric)
layer_is_date columns (Expr-F.Text bytes) h = text_no_date (day_of bytes)
layer_is_date columns (Expr-F.Hex bytes) h = refl
layer_is_date columns (Expr-F.Date day) h = date_is_date day h
layer_is_date columns Expr-F.Null h = refl
layer_is_date columns (Expr-F.Column name) h = column_is_date name (column_named name columns)
layer_is_date columns (Expr-F.Neg part) h = numeric_no_date _ (numeric_after (finding columns part) negation negation_numeric)
layer_is_date columns (Expr-F.Sum parts) h =
    numeric_no_date _ (numeric_after (all_found (map (λ (part : Bool × Finding). part.1) (map (λ (part : Bool × Expr). (part.0, finding columns part.1)) parts))) sum_finding sum_numeric)
layer_is_date columns (Expr-F.Product first parts) h =
    numeric_no_date _
    (numeric_after (finding columns first) _ (λ found. numeric_after (all_found (map (λ (part : Op × Finding). beside part.0 part.1) (map (λ (part : Op × Expr). (part.0, finding columns part.1)) parts))) (product_finding found) (product_numeric found)))
layer_is_date columns (Expr-F.Call f part) h = numeric_no_date _ (numeric_after (finding columns part) (call_finding f) (call_numeric f))

pub names_date_is : (columns : List Column) (expr : Expr) → IsOk (finding columns expr) → names_date columns (out-Expr expr) ≡ is_date (finding columns expr)
unfolding mapped
names_date_is columns expr h =
    let opened = fold_out-Expr Finding (finding_step columns) expr in
    layer_is_date columns (out-Expr expr) (ap is_ok (sym opened) ∙ h) ∙ ap is_date (sym opened)

-- ---- the parts of what is well typed

first_ok : {A B : Type 0} (r : Result A CheckFault) (k : A → Result B CheckFault) → IsOk (after r k) → IsOk r
first_ok (Ok x) k h = refl
first_ok (Err fault) k h = h

rest_ok : {A B : Type 0} (r : Result A CheckFault) (rest : Result B CheckFault) → IsOk (after r (λ x. rest)) → IsOk rest
rest_ok (Ok x) rest h = h
rest_ok (Err fault) rest h = absurd (cc)

later_ok : {B : Type 0} (r : Result B CheckFault) (rest : Result (List B) CheckFault) → IsOk (after r (λ y. after rest (λ ys. Ok (y ∷ ys)))) → IsOk rest
later_ok (Ok y) rest h = first_ok rest _ h
later_ok (Err fault) rest h = absurd (cc)

pub all_ok : {A B : Type 0} (f : A → Result B CheckFault) (xs : List A) → IsOk (all_found (map f xs)) → All (λ x. IsOk (f x)) xs
all_ok f [] h = All-nil (λ x. IsOk (f x))
all_ok f (x ∷ xs) h = All-cons (λ x. IsOk (f x)) x xs (first_ok (f x) _ h) (all_ok f xs (later_ok (f x) (all_found (map f xs)) h))

pub operands_ok : (columns : List Column) (exprs : List Expr) → IsOk (alike_verdict columns exprs) → All (λ expr. IsOk (finding columns expr)) exprs
operands_ok columns exprs h = all_ok (finding columns) exprs (first_ok (all_found (map (finding columns) exprs)) _ h)

conds_ok : (columns : List Column) (conds : List Cond) → IsOk (all_verdict (map (checked_cond columns) conds)) → All (λ cond. IsOk (checked_cond columns cond)) conds
conds_ok columns conds h = all_ok (checked_cond columns) conds (first_ok (all_found (map (checked_cond columns) conds)) _ h)

-- ---- OR and AND

pub or_ok : (columns : List Column) (cond : Cond) (conds : List Cond) → cond ≡ tree.Or conds → IsOk (checked_cond columns cond) → All (λ cond. IsOk (checked_cond columns cond)) conds
or_ok columns cond conds is h =
    conds_ok columns conds (ap is_ok (sym (ap (checked_cond columns) is ∙ ap (checked_cond columns) (sym (rolls-Or conds)) ∙ fold-roll-Cond Verdict (verdict_step columns) (Cond-F.Or conds))) ∙ h)

pub and_ok : (columns : List Column) (cond : Cond) (conds : List Cond) → cond ≡ tree.And conds → IsOk (checked_cond columns cond) → All (λ cond. IsOk (checked_cond columns cond)) conds
and_ok columns cond conds is h =
    conds_ok columns conds (ap is_ok (sym (ap (checked_cond columns) is ∙ ap (checked_cond columns) (sym (rolls-And conds)) ∙ fold-roll-Cond Verdict (verdict_step columns) (Cond-F.And conds))) ∙ h)

pub or_truth : (columns : List Column) (cells : List Value) (cond : Cond) (conds : List Cond) → cond ≡ tree.Or conds → fold greatest False (map (truth columns cells) conds) ≡ truth columns cells cond
or_truth columns cells cond conds is =
    sym (ap (truth columns cells) is ∙ ap (truth columns cells) (sym (rolls-Or conds)) ∙ fold-roll-Cond Truth (truth_step columns cells) (Cond-F.Or conds))

pub and_truth : (columns : List Column) (cells : List Value) (cond : Cond) (conds : List Cond) → cond ≡ tree.And conds → fold least True (map (truth columns cells) conds) ≡ truth columns cells cond
and_truth columns cells cond conds is =
    sym (ap (truth columns cells) is ∙ ap (truth columns cells) (sym (rolls-And conds)) ∙ fold-roll-Cond Truth (truth_step columns cells) (Cond-F.And conds))

pub in_truth : (columns : List Column) (cells : List Value) (cond : Cond) (is_not : Bool) (expr : Expr) (list : List Expr) → cond ≡ tree.In is_not expr list
    → negated is_not (among_truth columns cells expr list) ≡ truth columns cells cond
in_truth columns cells cond is_not expr list is =
    sym (ap (truth columns cells) is ∙ ap (truth columns cells) (sym (rolls-In is_not expr list)) ∙ fold-roll-Cond Truth (truth_step columns cells) (Cond-F.In is_not expr list))

-- one part more
pub fold_next : {X : Type 0} (g : Truth → Truth → Truth) (f : X → Truth) (so_far : Truth) (xs : List X) (i : ℕ) (x : X) → i < length xs → x ≡ get_or xs i x
    → fold g so_far (map f (drop i xs)) ≡ fold g (g so_far (f x)) (map f (drop (i + 1) xs))
fold_next g f so_far xs i x h is = ap (λ ys. fold g so_far (map f ys)) (drop_at_item xs i x h is)

-- ---- IN

if_same : (b : Bool) → (if b then Unknown else False) ≡ (if b || false then Unknown else False)
if_same true = refl
if_same false = refl

among_rest_is : (x : Value) (met : Bool) (items : List Value)
    → among_rest x met items ≡ (if list_any (equals x) items then True else (if met || list_any is_null items then Unknown else False))
among_rest_is x met [] = if_same met
among_rest_is x met (item ∷ items) = by_test (among_rest_is x (met || is_null item) items) (equals x item)
  where
    by_test : among_rest x (met || is_null item) items ≡ (if list_any (equals x) items then True else (if met || is_null item || list_any is_null items then Unknown else False)) → (b : Bool) → (if b then True else among_rest x (met || is_null item) items)
        ≡ (if b || list_any (equals x) items then True else (if met || (is_null item || list_any is_null items) then Unknown else False))
    by_test rest true = refl
    by_test rest false = rest ∙ ap (λ b. if list_any (equals x) items then True else (if b then Unknown else False)) (or_assoc met (is_null item) (list_any is_null items))

pub among_begins : (columns : List Column) (cells : List Value) (expr : Expr) (list : List Expr) (x : Value) (dates : Bool) → dates ≡ are_dates columns (expr ∷ list) → x ≡ operand columns cells dates expr
    → among_rest x (is_null x) (map (operand columns cells dates) list) ≡ among_truth columns cells expr list
among_begins columns cells expr list x dates d e =
    among_rest_is x (is_null x) (map (operand columns cells dates) list)
    ∙ ap (λ (y : Value). among y (map (operand columns cells dates) list)) e
    ∙ ap (λ (b : Bool). among (operand columns cells b expr) (map (operand columns cells b) list)) d

-- each of a list that an expression is compared with is well typed
pub list_ok : (columns : List Column) (expr : Expr) (list : List Expr) → IsOk (alike_verdict columns (expr ∷ list)) → All (λ expr. IsOk (finding columns expr)) list
list_ok columns expr list ok = All-tail (λ expr. IsOk (finding columns expr)) expr list (operands_ok columns (expr ∷ list) ok)

pub item_ok : (columns : List Column) (expr : Expr) (list : List Expr) (i : ℕ) (item : Expr) → IsOk (alike_verdict columns (expr ∷ list)) → i < length list → item ≡ get_or list i item → IsOk (finding columns item)
item_ok columns expr list i item ok h is = subst (λ (e : Expr). IsOk (finding columns e)) (sym is) (list_ok columns expr list ok i item h)
