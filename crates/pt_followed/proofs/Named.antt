-- What a partitioning's expression comes to, where it is a column or a function of it.
use Rattle.std.proofs.Common.{◌≡◌, ℕ, zero, suc, ◌<◌, arith, Bool, true, false, List, [], ◌∷◌, cond, get_or, length, Option, Some, None, Ok, refl, sym, ap, ◌∙◌}
use Rattle.std.specs.Prelude.{is_some}
use Rattle.std.specs.List.{cons_option, filter_map}
use Rattle.std.proofs.lemmas.Bool.{false≢true, true≢false}
use Rattle.std.proofs.lemmas.List.{get_or-map}
use Rattle.std.proofs.lemmas.List.Quantifiers.{position-Some}
use Rattle.pt_value.specs.declared.value.Value.{Value}
use Rattle.pt_value.specs.declared.value.Kind.{Kind}
use Rattle.pt_value.specs.declared.value.Kind.TheVariants as kind
use Rattle.pt_ast.specs.declared.tree.Expr.{Expr, map-Expr}
use Rattle.pt_ast.specs.declared.tree.Expr.TheOpen.{Expr-F}
use Rattle.pt_ast.specs.declared.tree.Expr.TheViews.{out-Expr}
use Rattle.pt_ast.specs.declared.tree.Expr.TheFolds.{fold_out-Expr}
use Rattle.pt_ast.specs.declared.tree.Func.{Func}
use Rattle.pt_ast.specs.declared.table.Column.{Column}
use Rattle.pt_expr.specs.Columns.{column_named, is_named}
use Rattle.pt_expr.specs.Found.{Finding, call_finding, column_finding, column_found, after, finding, finding_step}
use Rattle.pt_expr.specs.Values.{call, value, value_step, wanted}
use Rattle.pt_place.specs.Fitting.{kind_at}
use Rattle.pt_place.specs.Names.{column_of, columns_in, names_in, names_step}
use Rattle.pt_place.specs.Place.{number_in, number_of}
use Rattle.pt_reach.specs.Kept.{cell_at, is_followed, is_name, is_year_or_days, sole}
use Rattle.pt_reach.proofs.Names.{named_at}
use Rattle.pt_followed.specs.Steps.{called}

sole_one : (o : Option ℕ) (at : ℕ) → sole (cons_option o []) ≡ Some at → o ≡ Some at
sole_one None at e = absurd (true≢false (sym (ap is_some e)))
sole_one (Some c) at e = e

-- the column of a name, by its position
named_column : (name : List ℕ) (columns : List Column) (c : ℕ) (d : Column) → c < length columns → is_named name (get_or columns c d) ≡ true
    → ((k : ℕ) → k < c → is_named name (get_or columns k d) ≡ false) → column_named name columns ≡ Some (get_or columns c d)
named_column name [] c d within here before = absurd (omega (arith, within))
named_column name (column ∷ columns) zero d within here before = ap (λ (t : Bool). cond t (Some column) (column_named name columns)) here
named_column name (column ∷ columns) (suc c) d within here before =
    ap (λ (t : Bool). cond t (Some column) (column_named name columns)) (before 0 (omega arith))
    ∙ named_column name columns c d (omega (arith, within)) here (λ k h. before (suc k) (omega (arith, h)))

column_within : (columns : List Column) (name : List ℕ) (at : ℕ) → column_of columns name ≡ Some at → at < length columns
column_within [] name at e = absurd (true≢false (sym (ap is_some e)))
column_within (column ∷ columns) name at e = (position-Some (is_named name) (column ∷ columns) at column e).0

found_named : (columns : List Column) (name : List ℕ) (at : ℕ) → column_of columns name ≡ Some at → column_finding name (column_named name columns) ≡ Ok (column_found (kind_at columns at))
found_named [] name at e = absurd (true≢false (sym (ap is_some e)))
found_named (column ∷ columns) name at e =
    let found = position-Some (is_named name) (column ∷ columns) at column e in
    ap (column_finding name) (named_column name (column ∷ columns) at column found.0 found.1 found.2)
    ∙ ap (λ (k : Kind). Ok (column_found k)) (sym (get_or-map (λ (c : Column). c.kind) (column ∷ columns) at column kind.BigInt found.0))

-- the column that an expression names, where it is that column alone
abbrev NodeColumn : List Column → ℕ → Expr-F Expr → Type 0
NodeColumn columns at x = sole (filter_map (column_of columns) (names_step (map-Expr Expr (List (List ℕ)) names_in x))) ≡ Some at

module _ (columns : List Column) (at : ℕ) where
  node_column : (expr : Expr) → sole (columns_in columns expr) ≡ Some at → NodeColumn columns at (out-Expr expr)
  node_column expr e = ap (λ (names : List (List ℕ)). sole (filter_map (column_of columns) names)) (sym (fold_out-Expr (List (List ℕ)) names_step expr)) ∙ e

  -- its place, its kind and its value, for any cells
  pub record IsOwn (expr : Expr) : Type 0 where
    pub within : at < length columns
    pub found : finding columns expr ≡ Ok (column_found (kind_at columns at))
    pub value_is : (cells : List Value) → value columns cells expr ≡ cell_at cells at

  own_node : (expr : Expr) (x : Expr-F Expr) → is_name x ≡ true → NodeColumn columns at x
      → (at < length columns) × (finding_step columns (map-Expr Expr Finding (finding columns) x) ≡ Ok (column_found (kind_at columns at)))
      × ((cells : List Value) → value_step columns cells (map-Expr Expr Value (value columns cells) x) ≡ cell_at cells at)
  own_node expr (Expr-F.Number n) name e = absurd (false≢true name)
  own_node expr (Expr-F.Text bytes) name e = absurd (false≢true name)
  own_node expr (Expr-F.Hex bytes) name e = absurd (false≢true name)
  own_node expr (Expr-F.Date day) name e = absurd (false≢true name)
  own_node expr Expr-F.Null name e = absurd (false≢true name)
  own_node expr (Expr-F.Column own) name e =
      let is = sole_one (column_of columns own) at e in
      (column_within columns own at is, found_named columns own at is, λ cells. named_at own columns cells at is)
  own_node expr (Expr-F.Neg part) name e = absurd (false≢true name)
  own_node expr (Expr-F.Sum parts) name e = absurd (false≢true name)
  own_node expr (Expr-F.Product first parts) name e = absurd (false≢true name)
  own_node expr (Expr-F.Call f part) name e = absurd (false≢true name)

  pub own_expr : (expr : Expr) → is_name (out-Expr expr) ≡ true → sole (columns_in columns expr) ≡ Some at → IsOwn expr
  own_expr expr name e =
      let all = own_node expr (out-Expr expr) name (node_column expr e) in
      record {
        within = all.0;
        found = fold_out-Expr Finding (finding_step columns) expr ∙ all.1;
        value_is = λ cells. fold_out-Expr Value (value_step columns cells) expr ∙ all.2 cells;
      }

  -- what it comes to
  pub own_number : (expr : Expr) → IsOwn expr → (cells : List Value) → number_of columns expr cells ≡ number_in (cell_at cells at)
  own_number expr own cells = ap (λ (v : Value). number_in (wanted false (out-Expr expr) v)) (own.value_is cells)

  -- ---- a function of it

  pub record IsCalled (f : Func) (expr : Expr) : Type 0 where
    pub within : at < length columns
    pub found : finding columns expr ≡ call_finding f (column_found (kind_at columns at))
    pub value_is : (cells : List Value) → value columns cells expr ≡ call f (cell_at cells at)

  if_named : (b : Bool) (part : Expr) → cond b (is_name (out-Expr part)) false ≡ true → is_name (out-Expr part) ≡ true
  if_named true part e = e
  if_named false part e = absurd (false≢true e)

  pub called_expr : (expr : Expr) (f : Func) → is_followed (out-Expr expr) ≡ true → called (out-Expr expr) ≡ Some f → sole (columns_in columns expr) ≡ Some at → IsCalled f expr
  called_expr expr f followed is e = by (out-Expr expr) refl followed is (node_column expr e)
    where
      made : (x : Expr-F Expr) (part : Expr) (g : Func) → out-Expr expr ≡ x → x ≡ Expr-F.Call g part → g ≡ f → IsOwn part → IsCalled f expr
      made x part g out shape same own =
          let node = out ∙ shape in
          record {
            within = own.within;
            found = fold_out-Expr Finding (finding_step columns) expr ∙ ap (λ (y : Expr-F Expr). finding_step columns (map-Expr Expr Finding (finding columns) y)) node
                ∙ ap (λ (r : Finding). after r (call_finding g)) own.found ∙ ap (λ (h : Func). call_finding h (column_found (kind_at columns at))) same;
            value_is = λ cells. fold_out-Expr Value (value_step columns cells) expr ∙ ap (λ (y : Expr-F Expr). value_step columns cells (map-Expr Expr Value (value columns cells) y)) node
                ∙ ap (call g) (own.value_is cells) ∙ ap (λ (h : Func). call h (cell_at cells at)) same;
          }

      by : (x : Expr-F Expr) → out-Expr expr ≡ x → is_followed x ≡ true → called x ≡ Some f → NodeColumn columns at x → IsCalled f expr
      by (Expr-F.Number n) out h c n_e = absurd (false≢true h)
      by (Expr-F.Text bytes) out h c n_e = absurd (false≢true h)
      by (Expr-F.Hex bytes) out h c n_e = absurd (false≢true h)
      by (Expr-F.Date day) out h c n_e = absurd (false≢true h)
      by Expr-F.Null out h c n_e = absurd (false≢true h)
      by (Expr-F.Column own) out h c n_e = absurd (true≢false (sym (ap is_some c)))
      by (Expr-F.Neg part) out h c n_e = absurd (false≢true h)
      by (Expr-F.Sum parts) out h c n_e = absurd (false≢true h)
      by (Expr-F.Product first parts) out h c n_e = absurd (false≢true h)
      by (Expr-F.Call g part) out h c n_e =
          made (Expr-F.Call g part) part g out refl (let s : g ≡ f = cc in s) (own_expr part (if_named (is_year_or_days g) part h) n_e)

  pub called_number : (expr : Expr) (f : Func) → IsCalled f expr → (cells : List Value) → number_of columns expr cells ≡ number_in (call f (cell_at cells at))
  called_number expr f own cells = ap (λ (v : Value). number_in (wanted false (out-Expr expr) v)) (own.value_is cells)
