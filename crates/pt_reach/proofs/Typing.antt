-- Operands that are compared: where one is a date, each may stand for one.
use Rattle.std.proofs.Common.{inl, inr, ◌≡◌, ℕ, zero, suc, ◌<◌, arith, Bool, true, false, ◌&&◌, ◌||◌, cond, List, [], ◌∷◌, length, get_or, map, Some, Result, Ok, Err, refl, sym, ap, ap₂, ◌∙◌}
use Rattle.std.specs.Prelude.{IsOk, is_some, if◌then◌else◌}
use Rattle.std.specs.List.{list_all, list_any}
use Rattle.std.proofs.lemmas.Bool.{true≢false, false≢true, and_parts, or_cases}
use Rattle.std.proofs.lemmas.List.Quantifiers.{position-Some}
use Rattle.pt_ast.specs.declared.table.Column.{Column}
use Rattle.pt_ast.specs.declared.tree.Expr.{Expr, map-Expr}
use Rattle.pt_ast.specs.declared.tree.Expr.TheOpen.{Expr-F}
use Rattle.pt_ast.specs.declared.tree.Expr.TheViews.{out-Expr}
use Rattle.pt_ast.specs.declared.tree.Expr.TheFolds.{fold_out-Expr}
use Rattle.pt_expr.specs.declared.kind.CheckFault.{CheckFault}
use Rattle.pt_expr.specs.declared.kind.CheckFault.TheVariants.{BadDate, Mismatch}
use Rattle.pt_expr.specs.Columns.{column_named, is_named}
use Rattle.pt_expr.specs.Found.{Finding, after, all_found, column_finding, column_found, finding, finding_step, may_be_bytes, may_be_day, may_be_wide}
use Rattle.pt_expr.specs.FoundCond.{Verdict, alike_verdict, is_day, is_other_text}
use Rattle.pt_expr.specs.Truths.{are_dates, is_date}
use Rattle.pt_place.specs.Fitting.{kind_at}
use Rattle.pt_place.specs.Names.{column_of}
use Rattle.pt_reach.specs.May.{is_column, is_column_node}
use Rattle.pt_reach.proofs.Constants.{placed_at}

-- ---- what is found of the column itself

kind_named : (name : List ℕ) (columns : List Column) (c : ℕ) (d : Column) → c < length columns → is_named name (get_or columns c d) ≡ true
    → ((k : ℕ) → k < c → is_named name (get_or columns k d) ≡ false) → column_finding name (column_named name columns) ≡ Ok (column_found (kind_at columns c))
kind_named name [] c d within here before = absurd (omega (arith, within))
kind_named name (column ∷ columns) zero d within here before = ap (λ (t : Bool). column_finding name (cond t (Some column) (column_named name columns))) here
kind_named name (column ∷ columns) (suc c) d within here before =
    ap (λ (t : Bool). column_finding name (cond t (Some column) (column_named name columns))) (before 0 (omega arith))
    ∙ kind_named name columns c d (omega (arith, within)) here (λ k h. before (suc k) (omega (arith, h)))

pub kind_placed : (name : List ℕ) (columns : List Column) (c : ℕ) → column_of columns name ≡ Some c → column_finding name (column_named name columns) ≡ Ok (column_found (kind_at columns c))
kind_placed name [] c is = absurd (true≢false (sym (ap is_some is)))
kind_placed name (column ∷ columns) c is =
    let found = position-Some (is_named name) (column ∷ columns) c column is in
    kind_named name (column ∷ columns) c column found.0 found.1 found.2

node_finding : (columns : List Column) (c : ℕ) (x : Expr-F Expr) → is_column_node columns c x ≡ true
    → finding_step columns (map-Expr Expr Finding (finding columns) x) ≡ Ok (column_found (kind_at columns c))
node_finding columns c (Expr-F.Number n) e = absurd (false≢true e)
node_finding columns c (Expr-F.Text bytes) e = absurd (false≢true e)
node_finding columns c (Expr-F.Hex bytes) e = absurd (false≢true e)
node_finding columns c (Expr-F.Date day) e = absurd (false≢true e)
node_finding columns c Expr-F.Null e = absurd (false≢true e)
node_finding columns c (Expr-F.Column name) e = kind_placed name columns c (placed_at c (column_of columns name) e)
node_finding columns c (Expr-F.Neg part) e = absurd (false≢true e)
node_finding columns c (Expr-F.Sum parts) e = absurd (false≢true e)
node_finding columns c (Expr-F.Product first parts) e = absurd (false≢true e)
node_finding columns c (Expr-F.Call f part) e = absurd (false≢true e)

column_finding_is : (columns : List Column) (c : ℕ) (expr : Expr) → is_column columns c expr ≡ true → finding columns expr ≡ Ok (column_found (kind_at columns c))
column_finding_is columns c expr e = fold_out-Expr Finding (finding_step columns) expr ∙ node_finding columns c (out-Expr expr) e

-- ---- all that was found

after_ok : {A B : Type 0} (r : Result A CheckFault) (k : A → Result B CheckFault) → IsOk (after r k) → (x : A) × (r ≡ Ok x) × IsOk (k x)
after_ok (Ok x) k h = (x, refl, h)
after_ok (Err fault) k h = absurd (cc)

or_else : {A : Type 0} → A → Result A CheckFault → A
or_else d (Ok x) = x
or_else d (Err fault) = d

all_are : {A : Type 0} (rs : List (Result A CheckFault)) (xs : List A) → all_found rs ≡ Ok xs → rs ≡ map Ok xs
unfolding or_else
all_are [] xs e = ap (λ (ys : List _). map Ok ys) (ap (or_else []) e)
all_are (Err fault ∷ rs) xs e = absurd (cc)
all_are {A} (Ok x ∷ rs) xs e = by (all_found rs) (all_are rs) e
  where
    by : (r : Result (List A) CheckFault) → ((ys : List A) → r ≡ Ok ys → rs ≡ map Ok ys) → after r (λ ys. Ok (x ∷ ys)) ≡ Ok xs → Ok x ∷ rs ≡ map Ok xs
    by (Ok ys) rest e = ap (λ (more : List (Result A CheckFault)). Ok x ∷ more) (rest ys refl) ∙ ap (λ (zs : List A). map Ok zs) (ap (or_else xs) e)
    by (Err fault) rest e = absurd (cc)

-- ---- where one of several is a date

apart : {S : Type 0} (p day : S → Bool) → ((s : S) → p s ≡ true → day s ≡ false) → (ss : List S) → list_all p ss ≡ true → list_any day ss ≡ true → ⊥
apart p day never [] all some = false≢true some
apart p day never (s ∷ ss) all some =
    let both = and_parts (p s) (list_all p ss) all in
    elim (or_cases (day s) (list_any day ss) some) [
      | inl h ↦ true≢false (sym h ∙ never s both.0)
      | inr h ↦ apart p day never ss both.1 h
    ]

abbrev told : Bool → Bool → Verdict
told s t = if s then Err BadDate else (if t then Ok tt else Err Mismatch)

alike : (s t : Bool) → IsOk (told s t) → t ≡ true
alike true t h = absurd (cc)
alike false true h = refl
alike false false h = absurd (cc)

any_ok : {F S : Type 0} (shape : F → S) (day : S → Bool) (date : Result F CheckFault → Bool) → ((f : F) → date (Ok f) ≡ day (shape f)) → (fs : List F) → list_any date (map Ok fs) ≡ list_any day (map shape fs)
any_ok shape day date is [] = refl
any_ok shape day date is (f ∷ fs) = ap₂ (λ (a b : Bool). a || b) (is f) (any_ok shape day date is fs)

all_ok : {F S : Type 0} (shape : F → S) (day : S → Bool) (date : Result F CheckFault → Bool) → ((f : F) → date (Ok f) ≡ day (shape f)) → (fs : List F) → list_all date (map Ok fs) ≡ list_all day (map shape fs)
all_ok shape day date is [] = refl
all_ok shape day date is (f ∷ fs) = ap₂ (λ (a b : Bool). a && b) (is f) (all_ok shape day date is fs)

any_map : {A B : Type 0} (f : A → B) (p : B → Bool) (xs : List A) → list_any (λ x. p (f x)) xs ≡ list_any p (map f xs)
any_map f p [] = refl
any_map f p (x ∷ xs) = ap (λ (b : Bool). p (f x) || b) (any_map f p xs)

days_from : {F S : Type 0} (shape : F → S) (wide like bytes day other : S → Bool) (fs : List F)
    → IsOk (told (list_any day (map shape fs) && list_any other (map shape fs)) (list_all wide (map shape fs) || list_all like (map shape fs) || list_all bytes (map shape fs)))
    → ((s : S) → wide s ≡ true → day s ≡ false) → ((s : S) → bytes s ≡ true → day s ≡ false) → (date liked : Result F CheckFault → Bool)
    → ((f : F) → date (Ok f) ≡ day (shape f)) → ((f : F) → liked (Ok f) ≡ like (shape f)) → list_any date (map Ok fs) ≡ true → list_all liked (map Ok fs) ≡ true
days_from shape wide like bytes day other fs ok no_wide no_bytes date liked dates likes some =
    let days : list_any day (map shape fs) ≡ true = sym (any_ok shape day date dates fs) ∙ some in
    all_ok shape like liked likes fs
    ∙ elim (or_cases (list_all wide (map shape fs) || list_all like (map shape fs)) (list_all bytes (map shape fs)) (alike _ _ ok)) [
      | inl h ↦ elim (or_cases (list_all wide (map shape fs)) (list_all like (map shape fs)) h) [
        | inl k ↦ absurd (apart wide day no_wide (map shape fs) k days)
        | inr k ↦ k
      ]
      | inr h ↦ absurd (apart bytes day no_bytes (map shape fs) h days)
    ]

like_day : Finding → Bool
like_day (Ok found) = may_be_day found.shape
like_day (Err fault) = false

wide_apart : (s : _) → may_be_wide s ≡ true → is_day s ≡ false
wide_apart s e = grind (arith, e)

bytes_apart : (s : _) → may_be_bytes s ≡ true → is_day s ≡ false
bytes_apart s e = grind (arith, e)

all_days : (columns : List Column) (exprs : List Expr) → IsOk (alike_verdict columns exprs) → are_dates columns exprs ≡ true → list_all like_day (map (finding columns) exprs) ≡ true
unfolding like_day
all_days columns exprs ok dates =
    let founds = after_ok (all_found (map (finding columns) exprs)) _ ok in
    let are : map (finding columns) exprs ≡ map Ok founds.0 = all_are (map (finding columns) exprs) founds.0 founds.1 in
    ap (list_all like_day) are
    ∙ days_from _ may_be_wide may_be_day may_be_bytes is_day is_other_text founds.0 founds.2 wide_apart bytes_apart is_date like_day (λ f. refl) (λ f. refl)
    (sym (ap (list_any is_date) are) ∙ sym (any_map (finding columns) is_date exprs) ∙ dates)

-- the column itself, among operands of which one is a date
module _ (columns : List Column) (c : ℕ) (expr : Expr) (own : is_column columns c expr ≡ true) where
  by_kind : like_day (finding columns expr) ≡ true → may_be_day (column_found (kind_at columns c)).shape ≡ true
  unfolding like_day
  by_kind h = sym (ap like_day (column_finding_is columns c expr own)) ∙ h

  pub first_like : (rest : List Expr) → IsOk (alike_verdict columns (expr ∷ rest)) → are_dates columns (expr ∷ rest) ≡ true → may_be_day (column_found (kind_at columns c)).shape ≡ true
  first_like rest ok dates = by_kind (and_parts (like_day (finding columns expr)) (list_all like_day (map (finding columns) rest)) (all_days columns (expr ∷ rest) ok dates)).0

  pub second_like : (first : Expr) (rest : List Expr) → IsOk (alike_verdict columns (first ∷ expr ∷ rest)) → are_dates columns (first ∷ expr ∷ rest) ≡ true → may_be_day (column_found (kind_at columns c)).shape ≡ true
  second_like first rest ok dates =
      by_kind (and_parts (like_day (finding columns expr)) (list_all like_day (map (finding columns) rest))
      (and_parts (like_day (finding columns first)) (list_all like_day (map (finding columns) (expr ∷ rest))) (all_days columns (first ∷ expr ∷ rest) ok dates)).1).0
