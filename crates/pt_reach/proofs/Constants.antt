-- An expression that names no column has one value, and a test of the column itself against such expressions rests on its cell alone.
use Rattle.std.proofs.Common.{inl, inr, ◌≡◌, ℕ, Bool, true, false, not, ◌&&◌, List, [], ◌∷◌, ◌++◌, map, Option, Some, None, refl, sym, ap, ap₂, subst, ◌∙◌}
use Rattle.std.specs.Prelude.{fold, neg_ℤ, pos, slice_index_or}
use Rattle.std.specs.List.{flat_map, list_all}
use Rattle.std.proofs.lemmas.Bool.{true≢false, false≢true, and_parts, or_cases, eqb-true}
use Rattle.pt_value.specs.declared.value.Value.{Value}
use Rattle.pt_value.specs.declared.value.Value.TheVariants.{Null, Int}
use Rattle.pt_ast.specs.declared.tree.Cmp.{Cmp}
use Rattle.pt_ast.specs.declared.tree.Expr.{Expr, map-Expr}
use Rattle.pt_ast.specs.declared.tree.Expr.TheOpen.{Expr-F}
use Rattle.pt_ast.specs.declared.tree.Expr.TheViews.{out-Expr}
use Rattle.pt_ast.specs.declared.tree.Expr.TheFolds.{fold-roll-Expr, fold_out-Expr, ind-Expr}
use Rattle.pt_ast.specs.declared.table.Column.{Column}
use Rattle.pt_expr.specs.Truths.{among, among_truth, are_dates, between, between_truth, compare_truth, compared, operand}
use Rattle.pt_expr.specs.Values.{as_day, call, on_number, plus, times, value, value_step}
use Rattle.pt_place.specs.Checks.{is_some_name}
use Rattle.pt_place.specs.Names.{column_of, names_in, names_step}
use Rattle.pt_reach.specs.May.{is_at, is_between_constants, is_column, is_column_node, is_comparison, is_constant, is_in_constants, is_own, row_at}
use Rattle.pt_reach.proofs.Names.{at_row, named_at}

-- ---- no names

append_none : (xs ys : List (List ℕ)) → is_some_name (xs ++ ys) ≡ false → (is_some_name xs ≡ false) × (is_some_name ys ≡ false)
append_none [] ys none = (refl, none)
append_none (x ∷ xs) ys none = absurd (true≢false none)

is_not : (b : Bool) → not b ≡ true → b ≡ false
is_not true h = absurd (false≢true h)
is_not false h = refl

module _ (columns : List Column) (a b : List Value) where
  abbrev IsOne : Expr → Type 0
  IsOne expr = is_some_name (names_in expr) ≡ false → value columns a expr ≡ value columns b expr

  abbrev Proved : Type 0
  Proved = (expr : Expr) × IsOne expr

  abbrev exprs : {X : Type 0} → List (X × Proved) → List (X × Expr)
  exprs {X} ps = map {B = X × Expr} (λ (p : X × Proved). (p.0, p.1.0)) ps

  abbrev all_names : {X : Type 0} → List (X × Proved) → List (List ℕ)
  all_names {X} ps = flat_map (λ (q : X × List (List ℕ)). q.1) (map {B = X × List (List ℕ)} (λ (q : X × Expr). (q.0, names_in q.1)) (exprs ps))

  abbrev valued : {X : Type 0} → List Value → List (X × Proved) → List (X × Value)
  valued {X} cells ps = map {B = X × Value} (λ (q : X × Expr). (q.0, value columns cells q.1)) (exprs ps)

  parts_one : {X : Type 0} (parts : List (X × Proved)) → is_some_name (all_names parts) ≡ false → valued a parts ≡ valued b parts
  parts_one {X} [] none = refl
  parts_one {X} (p ∷ ps) none =
      let both = append_none (names_in p.1.0) (all_names ps) none in
      ap₂ (λ (v : Value) (vs : List (X × Value)). (p.0, v) ∷ vs) (p.1.1 both.0) (parts_one ps both.1)

  abbrev NodeIsOne : Expr-F Expr → Type 0
  NodeIsOne x =
      is_some_name (names_step (map-Expr Expr (List (List ℕ)) names_in x)) ≡ false
      → value_step columns a (map-Expr Expr Value (value columns a) x) ≡ value_step columns b (map-Expr Expr Value (value columns b) x)

  node : (y : Expr-F Proved) → NodeIsOne (map-Expr Proved Expr (λ (e : Proved). e.0) y)
  node (Expr-F.Number n) none = refl
  node (Expr-F.Text bytes) none = refl
  node (Expr-F.Hex bytes) none = refl
  node (Expr-F.Date day) none = refl
  node Expr-F.Null none = refl
  node (Expr-F.Column name) none = absurd (true≢false none)
  node (Expr-F.Neg part) none = ap (on_number neg_ℤ) (part.1 none)
  node (Expr-F.Sum parts) none = ap (fold plus (Int (pos 0))) (parts_one parts none)
  node (Expr-F.Product first parts) none =
      let both = append_none (names_in first.0) (all_names parts) none in
      ap₂ (fold times) (first.1 both.0) (parts_one parts both.1)
  node (Expr-F.Call f part) none = ap (call f) (part.1 none)

  one_value : (expr : Expr) → IsOne expr
  one_value = ind-Expr IsOne (λ x y is none.
      fold-roll-Expr Value (value_step columns a) x
      ∙ subst NodeIsOne is (node y) (sym (ap is_some_name (fold-roll-Expr (List (List ℕ)) names_step x)) ∙ none)
      ∙ sym (fold-roll-Expr Value (value_step columns b) x))

  pub constant_value : (expr : Expr) → is_constant expr ≡ true → value columns a expr ≡ value columns b expr
  constant_value expr constant = one_value expr (is_not (is_some_name (names_in expr)) constant)

-- ---- the column itself

pub placed_at : (c : ℕ) (o : Option ℕ) → is_at c o ≡ true → o ≡ Some c
placed_at c (Some place) e = ap Some (eqb-true place c e)
placed_at c None e = absurd (false≢true e)

node_value : (columns : List Column) (cells : List Value) (c : ℕ) (x : Expr-F Expr) → is_column_node columns c x ≡ true
    → value_step columns cells (map-Expr Expr Value (value columns cells) x) ≡ slice_index_or cells c Null
node_value columns cells c (Expr-F.Number n) e = absurd (false≢true e)
node_value columns cells c (Expr-F.Text bytes) e = absurd (false≢true e)
node_value columns cells c (Expr-F.Hex bytes) e = absurd (false≢true e)
node_value columns cells c (Expr-F.Date day) e = absurd (false≢true e)
node_value columns cells c Expr-F.Null e = absurd (false≢true e)
node_value columns cells c (Expr-F.Column name) e = named_at name columns cells c (placed_at c (column_of columns name) e)
node_value columns cells c (Expr-F.Neg part) e = absurd (false≢true e)
node_value columns cells c (Expr-F.Sum parts) e = absurd (false≢true e)
node_value columns cells c (Expr-F.Product first parts) e = absurd (false≢true e)
node_value columns cells c (Expr-F.Call f part) e = absurd (false≢true e)

pub column_value : (columns : List Column) (cells : List Value) (c : ℕ) (expr : Expr) → is_column columns c expr ≡ true → value columns cells expr ≡ slice_index_or cells c Null
column_value columns cells c expr e = fold_out-Expr Value (value_step columns cells) expr ∙ node_value columns cells c (out-Expr expr) e

-- ---- tests, on a row and on the row that has its cell alone

module _ (columns : List Column) (c : ℕ) (cells : List Value) where
  abbrev own : List Value
  own = row_at c (slice_index_or cells c Null)

  dated : (dates : Bool) (expr : Expr) → value columns cells expr ≡ value columns own expr → operand columns cells dates expr ≡ operand columns own dates expr
  dated true expr e = ap as_day e
  dated false expr e = e

  of_column : (dates : Bool) (expr : Expr) → is_column columns c expr ≡ true → operand columns cells dates expr ≡ operand columns own dates expr
  of_column dates expr e =
      dated dates expr (column_value columns cells c expr e ∙ sym (column_value columns own c expr e ∙ at_row c (slice_index_or cells c Null)))

  of_constant : (dates : Bool) (expr : Expr) → is_constant expr ≡ true → operand columns cells dates expr ≡ operand columns own dates expr
  of_constant dates expr e = dated dates expr (constant_value columns cells own expr e)

  of_constants : (dates : Bool) (list : List Expr) → list_all is_constant list ≡ true → map (operand columns cells dates) list ≡ map (operand columns own dates) list
  of_constants dates [] e = refl
  of_constants dates (expr ∷ list) e =
      let both = and_parts (is_constant expr) (list_all is_constant list) e in
      ap₂ (λ (v : Value) (vs : List Value). v ∷ vs) (of_constant dates expr both.0) (of_constants dates list both.1)

  pub compare_same : (cmp : Cmp) (left right : Expr) → is_comparison columns c left right ≡ true → compare_truth columns cells cmp left right ≡ compare_truth columns own cmp left right
  compare_same cmp left right e =
      let dates = are_dates columns (left ∷ right ∷ []) in
      elim (or_cases (is_own columns c left right) (is_own columns c right left) e) [
        | inl h ↦ let both = and_parts (is_column columns c left) (is_constant right) h in ap₂ (compared cmp) (of_column dates left both.0) (of_constant dates right both.1)
        | inr h ↦ let both = and_parts (is_column columns c right) (is_constant left) h in ap₂ (compared cmp) (of_constant dates left both.1) (of_column dates right both.0)
      ]

  pub null_same : (expr : Expr) → is_column columns c expr ≡ true → value columns cells expr ≡ value columns own expr
  null_same expr e = of_column false expr e

  pub among_same : (expr : Expr) (list : List Expr) → is_in_constants columns c expr list ≡ true → among_truth columns cells expr list ≡ among_truth columns own expr list
  among_same expr list e =
      let dates = are_dates columns (expr ∷ list) in
      let both = and_parts (is_column columns c expr) (list_all is_constant list) e in
      ap₂ among (of_column dates expr both.0) (of_constants dates list both.1)

  pub between_same : (expr low high : Expr) → is_between_constants columns c expr low high ≡ true → between_truth columns cells expr low high ≡ between_truth columns own expr low high
  between_same expr low high e =
      let dates = are_dates columns (expr ∷ low ∷ high ∷ []) in
      let both = and_parts (is_column columns c expr) (is_constant low && is_constant high) e in
      let ends = and_parts (is_constant low) (is_constant high) both.1 in
      ends_same dates both.0 ends.0 ends.1
    where
      ends_same : (dates : Bool) → is_column columns c expr ≡ true → is_constant low ≡ true → is_constant high ≡ true
          → between (operand columns cells dates expr) (operand columns cells dates low) (operand columns cells dates high) ≡ between (operand columns own dates expr) (operand columns own dates low) (operand columns own dates high)
      ends_same dates h i j =
          ap (λ (x : Value). between x (operand columns cells dates low) (operand columns cells dates high)) (of_column dates expr h)
          ∙ ap₂ (between (operand columns own dates expr)) (of_constant dates low i) (of_constant dates high j)
