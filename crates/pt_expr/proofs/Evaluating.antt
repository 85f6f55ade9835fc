-- Sums and products that were found well, value by value: no prefix overflows.
use Rattle.std.proofs.Common.{◌≡◌, ℕ, ◌+◌, ◌<◌, ◌≤◌, ◌^◌, Bool, true, false, List, [], ◌∷◌, length, drop, get_or, map, Option, Some, None, Ok, Err, IfOk, refl, sym, ap, subst, ◌∙◌, arith, pos}
use Rattle.std.specs.Prelude.{IsOk, is_ok, fold, nat_lt, if◌then◌else◌}
use Rattle.std.proofs.lemmas.Bool.Decides.{nat_tests}
use Rattle.std.proofs.lemmas.List.{drop_all}
use Rattle.pt_value.specs.declared.value.Value.{Value}
use Rattle.pt_value.specs.declared.value.Value.TheVariants as value
use Rattle.pt_ast.specs.declared.table.Column.{Column}
use Rattle.pt_ast.specs.declared.tree.Func.{Func}
use Rattle.pt_ast.specs.declared.tree.Op.{Op}
use Rattle.pt_ast.specs.declared.tree.Expr.{Expr}
use Rattle.pt_ast.specs.declared.tree.Expr.TheOpen.{Expr-F}
use Rattle.pt_ast.specs.declared.tree.Expr.TheVariants as tree
use Rattle.pt_ast.specs.declared.tree.Expr.TheVariants.{rolls-Call, rolls-Column, rolls-Product, rolls-Sum}
use Rattle.pt_ast.specs.declared.tree.Expr.TheFolds.{fold-roll-Expr}
use Rattle.pt_expr.specs.declared.found.Found.{Found}
use Rattle.pt_expr.specs.declared.running.Running.{Running}
use Rattle.pt_expr.specs.Agrees.{Agrees, CanMultiply, FitsWide, IsWithin}
use Rattle.pt_expr.specs.Columns.{AreFitting, cell_named}
use Rattle.pt_expr.specs.Found.{Finding, after, bound_after, call_finding, finding, finding_step, may_be_wide, takes}
use Rattle.pt_expr.specs.Stepping.{plus_part, product_rest, sum_rest, times_part}
use Rattle.pt_expr.specs.Values.{call, plus, times, value, value_step}
use Rattle.pt_expr.proofs.Gathering.{drop_at_item}
use Rattle.pt_expr.proofs.Magnitudes.{fits_within, plus_within, times_can, times_within, wide_within}
use Rattle.pt_expr.proofs.Nodes.{agrees_fits, call_agrees, column_agrees}
use Rattle.pt_expr.proofs.Parts.{sum_whole, product_whole}

not_ok : (r : Finding) (k : Found → Finding) → ((found : Found) → is_ok (k found) ≡ false) → is_ok (after r k) ≡ false
not_ok (Ok found) k h = h found
not_ok (Err fault) k h = refl

-- ---- what a sum that goes well knows of its next part

going : Bool → Option ℕ → Running
going matches bound = record { matches = matches; bound = bound }

sum_mismatched : (columns : List Column) (o : Option ℕ) (parts : List (Bool × Expr)) → is_ok (sum_rest columns (going false o) parts) ≡ false
unfolding sum_rest going
sum_mismatched columns o [] = refl
sum_mismatched columns o (part ∷ parts) = not_ok (finding columns part.1) _ (λ found. sum_mismatched columns (plus_part (record { matches = false; bound = o }) found).bound parts)

sum_too_wide : (columns : List Column) (m : Bool) (parts : List (Bool × Expr)) → is_ok (sum_rest columns (going m None) parts) ≡ false
unfolding sum_rest going
sum_too_wide columns true [] = refl
sum_too_wide columns false [] = refl
sum_too_wide columns m (part ∷ parts) = not_ok (finding columns part.1) _ (λ found. sum_too_wide columns (plus_part (record { matches = m; bound = None }) found).matches parts)

pub record SumStep (columns : List Column) (bound : ℕ) (part : Bool × Expr) (rest : List (Bool × Expr)) (whole : Finding) : Type 0 where
  pub found : Found
  pub is : finding columns part.1 ≡ Ok found
  pub fits : may_be_wide found.shape ≡ true
  pub narrow : bound + found.bound < 2 ^ 126
  pub rest_is : sum_rest columns (record { matches = true; bound = Some (bound + found.bound) }) rest ≡ whole

contradicts : (r : Finding) (whole : Finding) → is_ok r ≡ false → r ≡ whole → IsOk whole → ⊥
contradicts r whole bad same ok = let both : false ≡ true = sym bad ∙ ap is_ok same ∙ ok in cc

below : (n : ℕ) → nat_lt n (2 ^ 126) ≡ true → n < 2 ^ 126
below n h = grind (arith, nat_tests)

sum_found : (columns : List Column) (bound : ℕ) (part : Bool × Expr) (rest : List (Bool × Expr)) (whole : Finding) (found : Found) (w t : Bool) → finding columns part.1 ≡ Ok found → IsOk whole
    → may_be_wide found.shape ≡ w → nat_lt (bound + found.bound) (2 ^ 126) ≡ t
    → sum_rest columns (going w (if t then Some (bound + found.bound) else None)) rest ≡ whole → SumStep columns bound part rest whole
unfolding going
sum_found columns bound part rest whole found true true is ok fits small so_far = record { found = found; is = is; fits = fits; narrow = below (bound + found.bound) small; rest_is = so_far }
sum_found columns bound part rest whole found true false is ok fits small so_far = absurd (contradicts _ whole (sum_too_wide columns true rest) so_far ok)
sum_found columns bound part rest whole found false t is ok fits small so_far =
    absurd (contradicts _ whole (sum_mismatched columns (if t then Some (bound + found.bound) else None) rest) so_far ok)

sum_step : (columns : List Column) (bound : ℕ) (part : Bool × Expr) (rest : List (Bool × Expr)) (whole : Finding) (r : Finding) → finding columns part.1 ≡ r → IsOk whole
    → after r (λ found. sum_rest columns (plus_part (record { matches = true; bound = Some bound }) found) rest) ≡ whole → SumStep columns bound part rest whole
unfolding going
sum_step columns bound part rest whole (Ok found) is ok so_far =
    sum_found columns bound part rest whole found (may_be_wide found.shape) (nat_lt (bound + found.bound) (2 ^ 126)) is ok refl refl so_far
sum_step columns bound part rest whole (Err fault) is ok so_far = absurd (contradicts (Err fault) whole refl so_far ok)

-- ---- the loop over a sum

pub evaluated : {A : Type 0} → List Column → List Value → A × Expr → A × Value
evaluated columns cells part = (part.0, value columns cells part.1)

-- a sum so far, within its bound, with these parts to come
pub record SumGoes (columns : List Column) (cells : List Value) (expr : Expr) (bound : ℕ) (sum : Value) (parts : List (Bool × Expr)) : Type 0 where
  pub within : IsWithin bound sum
  pub narrow : bound < 2 ^ 126
  pub rest : sum_rest columns (record { matches = true; bound = Some bound }) parts ≡ finding columns expr
  pub comes : fold plus sum (map (evaluated columns cells) parts) ≡ value columns cells expr

pub sum_begins : (columns : List Column) (cells : List Value) (expr : Expr) (parts : List (Bool × Expr)) → expr ≡ tree.Sum parts → SumGoes columns cells expr 0 (value.Int (pos 0)) parts
unfolding evaluated
sum_begins columns cells expr parts is = record {
  within = omega arith;
  narrow = omega arith;
  rest = sum_whole columns expr parts is;
  comes = sym (ap (value columns cells) is ∙ ap (value columns cells) (sym (rolls-Sum parts)) ∙ fold-roll-Expr Value (value_step columns cells) (Expr-F.Sum parts));
}

sum_at : (columns : List Column) (cells : List Value) (expr : Expr) (bound : ℕ) (sum : Value) (parts : List (Bool × Expr)) (i : ℕ) (part : Bool × Expr) → i < length parts → part ≡ get_or parts i part
    → IsOk (finding columns expr) → SumGoes columns cells expr bound sum (drop i parts) → SumStep columns bound part (drop (i + 1) parts) (finding columns expr)
unfolding sum_rest
sum_at columns cells expr bound sum parts i part h is ok goes =
    let more = subst (λ (ps : List (Bool × Expr)). SumGoes columns cells expr bound sum ps) (drop_at_item parts i part h is) goes in
    sum_step columns bound part (drop (i + 1) parts) (finding columns expr) (finding columns part.1) refl ok more.rest

pub sum_part_ok : (columns : List Column) (cells : List Value) (expr : Expr) (bound : ℕ) (sum : Value) (parts : List (Bool × Expr)) (i : ℕ) (part : Bool × Expr) → i < length parts → part ≡ get_or parts i part
    → IsOk (finding columns expr) → SumGoes columns cells expr bound sum (drop i parts) → IsOk (finding columns part.1)
sum_part_ok columns cells expr bound sum parts i part h is ok goes = let step = sum_at columns cells expr bound sum parts i part h is ok goes in ap is_ok step.is

-- one part more
pub record SumNext (columns : List Column) (cells : List Value) (expr : Expr) (sum : Value) (parts : List (Bool × Expr)) : Type 0 where
  pub fits : FitsWide sum
  pub bound : ℕ
  pub goes : SumGoes columns cells expr bound sum parts

agreeing : (r : Finding) (found : Found) (v : Value) → r ≡ Ok found → IfOk r (λ found. Agrees found v) → Agrees found v
agreeing r found v e h = subst (λ (r : Finding). IfOk r (λ found. Agrees found v)) e h

pub sum_goes_on : (columns : List Column) (cells : List Value) (expr : Expr) (bound : ℕ) (sum : Value) (parts : List (Bool × Expr)) (i : ℕ) (part : Bool × Expr) (v : Value) → i < length parts → part ≡ get_or parts i part
    → IsOk (finding columns expr) → SumGoes columns cells expr bound sum (drop i parts) → v ≡ value columns cells part.1 → IfOk (finding columns part.1) (λ found. Agrees found v)
    → SumNext columns cells expr (plus sum (part.0, v)) (drop (i + 1) parts)
unfolding evaluated
sum_goes_on columns cells expr bound sum parts i part v h is ok goes comes agrees =
    let step = sum_at columns cells expr bound sum parts i part h is ok goes in
    let agree = agreeing (finding columns part.1) step.found v step.is agrees in
    let within = plus_within part.0 bound step.found.bound sum v goes.within (wide_within step.found.shape step.found.bound v step.fits agree.by) in
    let more = subst (λ (ps : List (Bool × Expr)). SumGoes columns cells expr bound sum ps) (drop_at_item parts i part h is) goes in
    record {
      fits = fits_within (bound + step.found.bound) (plus sum (part.0, v)) step.narrow within;
      bound = bound + step.found.bound;
      goes = record {
        within = within;
        narrow = step.narrow;
        rest = step.rest_is;
        comes = ap (λ (x : Value). fold plus (plus sum (part.0, x)) (map (evaluated columns cells) (drop (i + 1) parts))) comes ∙ more.comes;
      };
    }

pub sum_value : (columns : List Column) (cells : List Value) (expr : Expr) (bound : ℕ) (sum : Value) (parts : List (Bool × Expr)) (i : ℕ) → length parts ≤ i
    → SumGoes columns cells expr bound sum (drop i parts) → sum ≡ value columns cells expr
sum_value columns cells expr bound sum parts i h goes =
    let last = subst (λ (ps : List (Bool × Expr)). SumGoes columns cells expr bound sum ps) (drop_all i parts h) goes in last.comes

pub sum_agrees : (columns : List Column) (cells : List Value) (expr : Expr) (bound : ℕ) (sum : Value) (parts : List (Bool × Expr)) (i : ℕ) → length parts ≤ i
    → SumGoes columns cells expr bound sum (drop i parts) → IfOk (finding columns expr) (λ found. Agrees found sum)
unfolding sum_rest
sum_agrees columns cells expr bound sum parts i h goes =
    let last = subst (λ (ps : List (Bool × Expr)). SumGoes columns cells expr bound sum ps) (drop_all i parts h) goes in
    subst (λ (r : Finding). IfOk r (λ found. Agrees found sum)) last.rest (record { by = last.within; narrow = last.narrow })

-- ---- the same of products

product_mismatched : (columns : List Column) (o : Option ℕ) (parts : List (Op × Expr)) → is_ok (product_rest columns (going false o) parts) ≡ false
unfolding product_rest going
product_mismatched columns o [] = refl
product_mismatched columns o (part ∷ parts) = not_ok (finding columns part.1) _ (λ found. product_mismatched columns (times_part (record { matches = false; bound = o }) part.0 found).bound parts)

product_too_wide : (columns : List Column) (m : Bool) (parts : List (Op × Expr)) → is_ok (product_rest columns (going m None) parts) ≡ false
unfolding product_rest going
product_too_wide columns true [] = refl
product_too_wide columns false [] = refl
product_too_wide columns m (part ∷ parts) = not_ok (finding columns part.1) _ (λ found. product_too_wide columns (times_part (record { matches = m; bound = None }) part.0 found).matches parts)

pub record ProductStep (columns : List Column) (bound : ℕ) (part : Op × Expr) (rest : List (Op × Expr)) (whole : Finding) : Type 0 where
  pub found : Found
  pub is : finding columns part.1 ≡ Ok found
  pub fits : takes part.0 found ≡ true
  pub narrow : bound_after bound part.0 found.bound < 2 ^ 126
  pub rest_is : product_rest columns (record { matches = true; bound = Some (bound_after bound part.0 found.bound) }) rest ≡ whole

product_found : (columns : List Column) (bound : ℕ) (part : Op × Expr) (rest : List (Op × Expr)) (whole : Finding) (found : Found) (w t : Bool) → finding columns part.1 ≡ Ok found → IsOk whole
    → takes part.0 found ≡ w → nat_lt (bound_after bound part.0 found.bound) (2 ^ 126) ≡ t
    → product_rest columns (going w (if t then Some (bound_after bound part.0 found.bound) else None)) rest ≡ whole → ProductStep columns bound part rest whole
unfolding going
product_found columns bound part rest whole found true true is ok fits small so_far =
    record { found = found; is = is; fits = fits; narrow = below (bound_after bound part.0 found.bound) small; rest_is = so_far }
product_found columns bound part rest whole found true false is ok fits small so_far = absurd (contradicts _ whole (product_too_wide columns true rest) so_far ok)
product_found columns bound part rest whole found false t is ok fits small so_far =
    absurd (contradicts _ whole (product_mismatched columns (if t then Some (bound_after bound part.0 found.bound) else None) rest) so_far ok)

product_step : (columns : List Column) (bound : ℕ) (part : Op × Expr) (rest : List (Op × Expr)) (whole : Finding) (r : Finding) → finding columns part.1 ≡ r → IsOk whole
    → after r (λ found. product_rest columns (times_part (record { matches = true; bound = Some bound }) part.0 found) rest) ≡ whole → ProductStep columns bound part rest whole
unfolding going
product_step columns bound part rest whole (Ok found) is ok so_far =
    product_found columns bound part rest whole found (takes part.0 found) (nat_lt (bound_after bound part.0 found.bound) (2 ^ 126)) is ok refl refl so_far
product_step columns bound part rest whole (Err fault) is ok so_far = absurd (contradicts (Err fault) whole refl so_far ok)

-- a product so far, within its bound, with these parts to come
pub record ProductGoes (columns : List Column) (cells : List Value) (expr : Expr) (bound : ℕ) (product : Value) (parts : List (Op × Expr)) : Type 0 where
  pub within : IsWithin bound product
  pub narrow : bound < 2 ^ 126
  pub rest : product_rest columns (record { matches = true; bound = Some bound }) parts ≡ finding columns expr
  pub comes : fold times product (map (evaluated columns cells) parts) ≡ value columns cells expr

first_ok : (r : Finding) (k : Found → Finding) → IsOk (after r k) → IsOk r
first_ok (Ok found) k h = refl
first_ok (Err fault) k h = h

finding-product : (columns : List Column) (expr first : Expr) (parts : List (Op × Expr)) → expr ≡ tree.Product first parts
    → finding columns expr ≡ finding_step columns (Expr-F.Product (finding columns first) (map (λ (part : Op × Expr). (part.0, finding columns part.1)) parts))
finding-product columns expr first parts is = ap (finding columns) is ∙ ap (finding columns) (sym (rolls-Product first parts)) ∙ fold-roll-Expr Finding (finding_step columns) (Expr-F.Product first parts)

pub product_first_ok : (columns : List Column) (expr first : Expr) (parts : List (Op × Expr)) → expr ≡ tree.Product first parts → IsOk (finding columns expr) → IsOk (finding columns first)
product_first_ok columns expr first parts is ok = first_ok (finding columns first) _ (ap is_ok (sym (finding-product columns expr first parts is)) ∙ ok)

pub record ProductBegins (columns : List Column) (cells : List Value) (expr : Expr) (product : Value) (parts : List (Op × Expr)) : Type 0 where
  pub bound : ℕ
  pub goes : ProductGoes columns cells expr bound product parts

product_fits : (columns : List Column) (found : Found) (parts : List (Op × Expr)) (whole : Finding) (w : Bool) → may_be_wide found.shape ≡ w → IsOk whole
    → product_rest columns (going w (Some found.bound)) parts ≡ whole → w ≡ true
product_fits columns found parts whole true fits ok rest = refl
product_fits columns found parts whole false fits ok rest = absurd (contradicts _ whole (product_mismatched columns (Some found.bound) parts) rest ok)

product_from : (columns : List Column) (cells : List Value) (expr first : Expr) (parts : List (Op × Expr)) (found : Found) (v : Value) → expr ≡ tree.Product first parts → IsOk (finding columns expr)
    → finding columns first ≡ Ok found → Agrees found v → v ≡ value columns cells first → ProductBegins columns cells expr v parts
unfolding going evaluated
product_from columns cells expr first parts found v is ok here agrees comes =
    let rest = product_whole columns expr first parts found is (sym here) in
    let fits = product_fits columns found parts (finding columns expr) (may_be_wide found.shape) refl ok rest in
    record {
      bound = found.bound;
      goes = record {
        within = wide_within found.shape found.bound v fits agrees.by;
        narrow = agrees.narrow;
        rest = ap (λ (w : Bool). product_rest columns (record { matches = w; bound = Some found.bound }) parts) (sym fits) ∙ rest;
        comes =
            ap (λ (x : Value). fold times x (map (evaluated columns cells) parts)) comes
            ∙ sym (ap (value columns cells) is ∙ ap (value columns cells) (sym (rolls-Product first parts)) ∙ fold-roll-Expr Value (value_step columns cells) (Expr-F.Product first parts));
      };
    }

pub product_begins : (columns : List Column) (cells : List Value) (expr first : Expr) (parts : List (Op × Expr)) (v : Value) → expr ≡ tree.Product first parts → IsOk (finding columns expr)
    → v ≡ value columns cells first → IfOk (finding columns first) (λ found. Agrees found v) → ProductBegins columns cells expr v parts
product_begins columns cells expr first parts v is ok comes agrees = by_first (finding columns first) refl (product_first_ok columns expr first parts is ok) agrees
  where
    by_first : (r : Finding) → finding columns first ≡ r → IsOk r → IfOk r (λ found. Agrees found v) → ProductBegins columns cells expr v parts
    by_first (Ok found) here fine agree = product_from columns cells expr first parts found v is ok here agree comes
    by_first (Err fault) here fine agree = absurd (cc)

product_at : (columns : List Column) (cells : List Value) (expr : Expr) (bound : ℕ) (product : Value) (parts : List (Op × Expr)) (i : ℕ) (part : Op × Expr) → i < length parts → part ≡ get_or parts i part
    → IsOk (finding columns expr) → ProductGoes columns cells expr bound product (drop i parts) → ProductStep columns bound part (drop (i + 1) parts) (finding columns expr)
unfolding product_rest
product_at columns cells expr bound product parts i part h is ok goes =
    let more = subst (λ (ps : List (Op × Expr)). ProductGoes columns cells expr bound product ps) (drop_at_item parts i part h is) goes in
    product_step columns bound part (drop (i + 1) parts) (finding columns expr) (finding columns part.1) refl ok more.rest

pub product_part_ok : (columns : List Column) (cells : List Value) (expr : Expr) (bound : ℕ) (product : Value) (parts : List (Op × Expr)) (i : ℕ) (part : Op × Expr) → i < length parts → part ≡ get_or parts i part
    → IsOk (finding columns expr) → ProductGoes columns cells expr bound product (drop i parts) → IsOk (finding columns part.1)
product_part_ok columns cells expr bound product parts i part h is ok goes = let step = product_at columns cells expr bound product parts i part h is ok goes in ap is_ok step.is

pub record ProductNext (columns : List Column) (cells : List Value) (expr : Expr) (product : Value) (part : Op × Value) (parts : List (Op × Expr)) : Type 0 where
  pub can : CanMultiply part.0 product part.1
  pub bound : ℕ
  pub goes : ProductGoes columns cells expr bound (times product part) parts

pub product_goes_on : (columns : List Column) (cells : List Value) (expr : Expr) (bound : ℕ) (product : Value) (parts : List (Op × Expr)) (i : ℕ) (part : Op × Expr) (v : Value) → i < length parts → part ≡ get_or parts i part
    → IsOk (finding columns expr) → ProductGoes columns cells expr bound product (drop i parts) → v ≡ value columns cells part.1 → IfOk (finding columns part.1) (λ found. Agrees found v)
    → ProductNext columns cells expr product (part.0, v) (drop (i + 1) parts)
unfolding evaluated
product_goes_on columns cells expr bound product parts i part v h is ok goes comes agrees =
    let step = product_at columns cells expr bound product parts i part h is ok goes in
    let agree = agreeing (finding columns part.1) step.found v step.is agrees in
    let more = subst (λ (ps : List (Op × Expr)). ProductGoes columns cells expr bound product ps) (drop_at_item parts i part h is) goes in
    record {
      can = times_can part.0 bound step.found product v goes.narrow step.narrow step.fits goes.within agree.by;
      bound = bound_after bound part.0 step.found.bound;
      goes = record {
        within = times_within part.0 bound step.found product v step.fits goes.within agree.by;
        narrow = step.narrow;
        rest = step.rest_is;
        comes = ap (λ (x : Value). fold times (times product (part.0, x)) (map (evaluated columns cells) (drop (i + 1) parts))) comes ∙ more.comes;
      };
    }

pub product_value : (columns : List Column) (cells : List Value) (expr : Expr) (bound : ℕ) (product : Value) (parts : List (Op × Expr)) (i : ℕ) → length parts ≤ i
    → ProductGoes columns cells expr bound product (drop i parts) → product ≡ value columns cells expr
product_value columns cells expr bound product parts i h goes =
    let last = subst (λ (ps : List (Op × Expr)). ProductGoes columns cells expr bound product ps) (drop_all i parts h) goes in last.comes

pub product_agrees : (columns : List Column) (cells : List Value) (expr : Expr) (bound : ℕ) (product : Value) (parts : List (Op × Expr)) (i : ℕ) → length parts ≤ i
    → ProductGoes columns cells expr bound product (drop i parts) → IfOk (finding columns expr) (λ found. Agrees found product)
unfolding product_rest
product_agrees columns cells expr bound product parts i h goes =
    let last = subst (λ (ps : List (Op × Expr)). ProductGoes columns cells expr bound product ps) (drop_all i parts h) goes in
    subst (λ (r : Finding). IfOk r (λ found. Agrees found product)) last.rest (record { by = last.within; narrow = last.narrow })

-- ---- columns and functions

pub column_found_agrees : (columns : List Column) (cells : List Value) (expr : Expr) (name : List ℕ) (v : Value) → expr ≡ tree.Column name → AreFitting columns cells → v ≡ cell_named name columns cells
    → IfOk (finding columns expr) (λ found. Agrees found v)
column_found_agrees columns cells expr name v is fitting comes =
    let rolled = ap (finding columns) is ∙ ap (finding columns) (sym (rolls-Column name)) ∙ fold-roll-Expr Finding (finding_step columns) (Expr-F.Column name) in
    subst (λ (x : Value). IfOk (finding columns expr) (λ found. Agrees found x)) (sym comes)
    (subst (λ (r : Finding). IfOk r (λ found. Agrees found (cell_named name columns cells))) (sym rolled) (column_agrees name columns cells fitting))

call_after : (f : Func) (v : Value) (r : Finding) → IfOk r (λ found. Agrees found v) → IfOk (after r (call_finding f)) (λ found. Agrees found (call f v))
call_after f v (Ok found) h = call_agrees f found v h
call_after f v (Err fault) h = tt

pub call_found_agrees : (columns : List Column) (expr part : Expr) (f : Func) (v : Value) → expr ≡ tree.Call f part → IfOk (finding columns part) (λ found. Agrees found v)
    → IfOk (finding columns expr) (λ found. Agrees found (call f v))
call_found_agrees columns expr part f v is h =
    let rolled = ap (finding columns) is ∙ ap (finding columns) (sym (rolls-Call f part)) ∙ fold-roll-Expr Finding (finding_step columns) (Expr-F.Call f part) in
    subst (λ (r : Finding). IfOk r (λ found. Agrees found (call f v))) (sym rolled) (call_after f v (finding columns part) h)

pub found_fits : (r : Finding) (v : Value) → IsOk r → IfOk r (λ found. Agrees found v) → FitsWide v
found_fits (Ok found) v ok h = agrees_fits found v h
found_fits (Err fault) v ok h = absurd (cc)
