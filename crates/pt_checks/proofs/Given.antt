-- Loops over the values of a row and over its cells, one more at a time.
use Rattle.std.proofs.Common.{◌≡◌, ℕ, ◌+◌, ◌<◌, Bool, true, false, not, ◌&&◌, ◌||◌, List, [], ◌∷◌, length, drop, get_or, Option, Some, None, IfOk, Ok, Err, Result, refl, sym, ap, ap₂, ◌∙◌, subst, arith, nat_lt}
use Rattle.std.specs.Prelude.{zip}
use Rattle.std.specs.Option.{option_or}
use Rattle.std.proofs.lemmas.Bool.{ltb-false, ltb-true}
use Rattle.std.proofs.lemmas.List.{drop_more, get_or_default}
use Rattle.pt_value.specs.Fits.{Fits}
use Rattle.pt_value.specs.declared.value.Value.{Value}
use Rattle.pt_value.specs.declared.value.Kind.{Kind}
use Rattle.pt_ast.specs.declared.tree.Expr.{Expr}
use Rattle.pt_ast.specs.declared.table.Column.{Column}
use Rattle.pt_ast.specs.declared.statement.ValueSpec.{ValueSpec}
use Rattle.pt_ast.specs.declared.refusal.Arg.TheVariants as arg
use Rattle.pt_ast.specs.declared.refusal.Refusal.{Refusal}
use Rattle.pt_ast.specs.declared.refusal.Refusal.TheVariants as refusal
use Rattle.pt_expr.specs.declared.kind.ExprKind.{ExprKind}
use Rattle.pt_expr.specs.declared.kind.CheckFault.{CheckFault}
use Rattle.pt_expr.specs.Found.{checked}
use Rattle.pt_expr.specs.Kinds.{HasKind}
use Rattle.pt_place.specs.Checks.{is_null}
use Rattle.pt_place.specs.First.{first_in, refused_if}
use Rattle.pt_place.specs.Fitting.{is_in_range}
use Rattle.pt_place.proofs.Firsts.{or-none}
use Rattle.pt_checks.specs.Faults.{of_fault}
use Rattle.pt_checks.specs.Cells.{bad_expr, bad_given, bad_kind, has_kind, is_date, lacks_value, value_for}
use Rattle.pt_checks.specs.Given.{AreGiven, IsFor, IsGiven}
use Rattle.pt_checks.proofs.Fitting.{fits, of_kind}

next : {A : Type 0} (xs : List A) (i : ℕ) (x : A) → i < length xs → x ≡ get_or xs i x → drop i xs ≡ x ∷ drop (i + 1) xs
next xs i x within is = drop_more xs i x within ∙ ap (λ y. y ∷ drop (i + 1) xs) (sym is)

-- ---- NULL in a NOT NULL column

pub lacks_more : (columns : List Column) (cells : List Value) (i : ℕ) (column : Column) (cell : Value) → i < length columns → i < length cells → column ≡ get_or columns i column → cell ≡ get_or cells i cell
    → (column.not_null && is_null cell) ≡ false → lacks_value (drop i columns) (drop i cells) ≡ lacks_value (drop (i + 1) columns) (drop (i + 1) cells)
lacks_more columns cells i column cell first second one two none =
    ap₂ lacks_value (next columns i column first one) (next cells i cell second two)
    ∙ ap (λ b. b || lacks_value (drop (i + 1) columns) (drop (i + 1) cells)) none

pub lacks_here : (columns : List Column) (cells : List Value) (i : ℕ) (column : Column) (cell : Value) → i < length columns → i < length cells → column ≡ get_or columns i column → cell ≡ get_or cells i cell
    → (column.not_null && is_null cell) ≡ true → lacks_value (drop i columns) (drop i cells) ≡ true
lacks_here columns cells i column cell first second one two found =
    ap₂ lacks_value (next columns i column first one) (next cells i cell second two)
    ∙ ap (λ b. b || lacks_value (drop (i + 1) columns) (drop (i + 1) cells)) found

-- ---- the values that are given

pairs_more : (targets : List ℕ) (specs : List ValueSpec) (i : ℕ) (spec : ValueSpec) → i < length specs → length specs ≡ length targets → spec ≡ get_or specs i spec
    → zip (drop i targets) (drop i specs) ≡ (get_or targets i 0, spec) ∷ zip (drop (i + 1) targets) (drop (i + 1) specs)
pairs_more targets specs i spec within alike is = ap₂ zip (drop_more targets i 0 (omega (arith, within, alike))) (next specs i spec within is)

pub bad_more : (columns : List Column) (number : ℕ) (targets : List ℕ) (specs : List ValueSpec) (i : ℕ) (spec : ValueSpec) → i < length specs → length specs ≡ length targets → spec ≡ get_or specs i spec
    → bad_given columns number (get_or targets i 0, spec) ≡ None
    → first_in (bad_given columns number) (zip (drop i targets) (drop i specs)) ≡ first_in (bad_given columns number) (zip (drop (i + 1) targets) (drop (i + 1) specs))
bad_more columns number targets specs i spec within alike is none =
    ap (first_in (bad_given columns number)) (pairs_more targets specs i spec within alike is) ∙ or-none _ _ none

pub given_more : (columns : List Column) (targets : List ℕ) (specs : List ValueSpec) (i : ℕ) (spec : ValueSpec) → i < length specs → spec ≡ get_or specs i spec
    → IsGiven columns (get_or targets i 0) spec → AreGiven columns targets specs i → AreGiven columns targets specs (i + 1)
given_more columns targets specs i spec within is one before k d below = by (nat_lt k i) refl
  where
    by : (b : Bool) → nat_lt k i ≡ b → IsGiven columns (get_or targets k 0) (get_or specs k d)
    by true e = before k d (ltb-true _ _ e)
    by false e =
        let past = ltb-false _ _ e in
        let same : i ≡ k = omega (arith, below, past) in
        let this : spec ≡ get_or specs i d = is ∙ get_or_default specs i spec d within in
        subst (λ n. IsGiven columns (get_or targets n 0) (get_or specs n d)) same (subst (IsGiven columns (get_or targets i 0)) this one)

-- ---- one value

pub is_for : (k : Kind) (expr : Expr) (own : ExprKind) (v : Value) → checked [] expr (is_date k) ≡ Ok own → v ≡ value_for [] [] k expr
    → IfOk (checked [] expr (is_date k)) (λ found. HasKind found v) → has_kind k own ≡ true → is_in_range k v ≡ true → IsFor k expr
is_for k expr own v found is has takes room =
    let kinded : HasKind own v = subst (λ r. IfOk r (λ (kind : ExprKind). HasKind kind v)) found has in
    (ap Rattle.std.specs.Prelude.is_ok found, subst (Fits k) is (fits k v (of_kind k own v kinded takes) room))

-- ---- why a value is refused

abbrev by_parts : ℕ → Kind → Result ExprKind CheckFault → Bool → Option Refusal
by_parts number k found room = option_or (bad_kind (arg.Number number) k found) (option_or (refused_if (not room) (refusal.OutOfRange (arg.Number number))) None)

module _ (number : ℕ) (k : Kind) (expr : Expr) where
  room : Bool
  room = is_in_range k (value_for [] [] k expr)

  abbrev late : Bool → Option Refusal
  late r = option_or (refused_if (not r) (refusal.OutOfRange (arg.Number number))) None

  pub refused_fault : (fault : CheckFault) → checked [] expr (is_date k) ≡ Err fault → Some (of_fault (arg.Number number) fault) ≡ bad_expr number k expr
  unfolding room
  refused_fault fault e = sym (ap (λ found. by_parts number k found room) e)

  of_kinds : (own : ExprKind) → checked [] expr (is_date k) ≡ Ok own → bad_expr number k expr ≡ option_or (refused_if (not (has_kind k own)) (refusal.TypeMismatch (arg.Number number))) (late room)
  unfolding room
  of_kinds own e = ap (λ found. by_parts number k found room) e

  abbrev early : Bool → Bool → Option Refusal
  early h r = option_or (refused_if (not h) (refusal.TypeMismatch (arg.Number number))) (late r)

  pub refused_kind : (own : ExprKind) → checked [] expr (is_date k) ≡ Ok own → has_kind k own ≡ false → Some (refusal.TypeMismatch (arg.Number number)) ≡ bad_expr number k expr
  refused_kind own e h = sym (of_kinds own e ∙ ap (λ b. early b room) h)

  pub refused_room : (own : ExprKind) → checked [] expr (is_date k) ≡ Ok own → has_kind k own ≡ true → is_in_range k (value_for [] [] k expr) ≡ false → Some (refusal.OutOfRange (arg.Number number)) ≡ bad_expr number k expr
  unfolding room
  refused_room own e h r = sym (of_kinds own e ∙ ap (λ b. early b room) h ∙ ap late r)

  pub not_refused : (own : ExprKind) → checked [] expr (is_date k) ≡ Ok own → has_kind k own ≡ true → is_in_range k (value_for [] [] k expr) ≡ true → None ≡ bad_expr number k expr
  unfolding room
  not_refused own e h r = sym (of_kinds own e ∙ ap (λ b. early b room) h ∙ ap late r)
