-- Assignments that pass the checks are well typed, and made one after the other they come to what the definition says.
use Rattle.std.proofs.Common.{◌≡◌, ℕ, ℤ, zero, suc, ◌+◌, ◌<◌, ◌≤◌, Bool, true, false, cond, not, ◌&&◌, ◌||◌, List, [], ◌∷◌, length, map, drop, get_or, Option, Some, None, Result, Ok, Err, refl, sym, ap, subst, ◌∙◌, arith, slice_set}
use Rattle.std.specs.Prelude.{IfNone, unwrap_or}
use Rattle.std.specs.List.{list_any}
use Rattle.std.specs.Option.{is_none, option_or}
use Rattle.std.proofs.lemmas.Int.{ints}
use Rattle.std.proofs.lemmas.Bool.{le-leb}
use Rattle.std.proofs.lemmas.List.{at_drop_all, at_drop_more, get_or-map}
use Rattle.std.proofs.lemmas.List.Elements.{All-cons, All-nil}
use Rattle.pt_value.specs.Fits.{Fits, FitsDate}
use Rattle.pt_value.specs.declared.value.Value.{Value}
use Rattle.pt_value.specs.declared.value.Value.TheVariants as cell
use Rattle.pt_value.specs.declared.value.Kind.{Kind}
use Rattle.pt_value.specs.declared.value.Kind.TheVariants as kind
use Rattle.pt_ast.specs.declared.table.Column.{Column}
use Rattle.pt_ast.specs.declared.table.TableDef.{TableDef}
use Rattle.pt_ast.specs.declared.statement.Tail.{Tail}
use Rattle.pt_ast.specs.declared.statement.ValueSpec.{ValueSpec}
use Rattle.pt_ast.specs.declared.statement.ValueSpec.TheVariants as value
use Rattle.pt_ast.specs.declared.refusal.Arg.TheVariants as arg
use Rattle.pt_ast.specs.declared.refusal.Refusal.{Refusal}
use Rattle.pt_ast.specs.declared.refusal.Refusal.TheVariants as refusal
use Rattle.pt_expr.specs.declared.kind.ExprKind.{ExprKind}
use Rattle.pt_expr.specs.declared.kind.CheckFault.{CheckFault}
use Rattle.pt_expr.specs.Columns.{AreFitting}
use Rattle.pt_place.specs.Checks.{is_null}
use Rattle.pt_place.specs.First.{first_in, refused_if}
use Rattle.pt_place.specs.Fitting.{is_in_range, kind_at}
use Rattle.pt_place.specs.Names.{column_of}
use Rattle.pt_place.proofs.Firsts.{none_first, none_next}
use Rattle.pt_checks.specs.declared.assigning.Assigning.{Assigning}
use Rattle.pt_checks.specs.declared.faults.CellsFault.{CellsFault}
use Rattle.pt_checks.specs.declared.faults.CellsFault.TheVariants as fault
use Rattle.pt_checks.specs.Assigned.{AreAssignable, IsAssignable, IsSource, IsTakenBy, assigned_values, bad_assign, bad_assigns, bad_source, bad_target, bad_update, default_at, is_wrong_null, lacks_room, set_targets, source_value, target_of, updated_cells, with_values}
use Rattle.pt_checks.specs.Assigning.{IsKept, assign, assign_all, finished, followed, roomy, with_assigned}
use Rattle.pt_checks.specs.Cells.{bad_kind, default_of, has_kind, lacks_value, unless}
use Rattle.pt_checks.specs.Given.{Gives}
use Rattle.pt_checks.specs.Named.{no_column}
use Rattle.pt_checks.specs.Queries.{IsCheckedCond, bad_cond, bad_tail}
use Rattle.pt_checks.proofs.Checking.{cond_checked}
use Rattle.pt_checks.proofs.Fitting.{set_fits}
use Rattle.pt_checks.proofs.Positions.{found_below}

-- ---- what passes is well typed

target_below : (columns : List Column) (name : List ℕ) → no_column columns name ≡ None → target_of columns name < length columns
target_below columns name none = by (column_of columns name) refl none
  where
    by : (o : Option ℕ) → column_of columns name ≡ o → refused_if (is_none o) (refusal.NoSuchColumn name) ≡ None → unwrap_or o 0 < length columns
    by (Some at) e passed = found_below columns name at e
    by None e passed = let bad : Some (refusal.NoSuchColumn name) ≡ None = passed in cc

is_taken : (table : List ℕ) (k : Kind) (r : Result ExprKind CheckFault) → bad_kind (arg.Name table) k r ≡ None → IsTakenBy k r
is_taken table k (Ok own) e = by (has_kind k own) e
  where
    by : (b : Bool) → refused_if (not b) (refusal.TypeMismatch (arg.Name table)) ≡ None → b ≡ true
    by true passed = refl
    by false passed = let bad : Some (refusal.TypeMismatch (arg.Name table)) ≡ None = passed in cc
is_taken table k (Err fault) e = cc

is_source : (table : List ℕ) (columns : List Column) (at : ℕ) (spec : ValueSpec) → bad_source table columns at spec ≡ None → IsSource columns at spec
is_source table columns at value.Default e = tt
is_source table columns at (value.Value expr) e = is_taken table (kind_at columns at) _ e

are_assignable : (table : List ℕ) (columns : List Column) (assigns : List (List ℕ × ValueSpec)) → first_in (bad_target columns) assigns ≡ None → first_in (bad_assign table columns) assigns ≡ None
    → AreAssignable columns assigns
are_assignable table columns [] there typed = All-nil (IsAssignable columns)
are_assignable table columns (assignment ∷ rest) there typed =
    All-cons (IsAssignable columns) assignment rest
    (target_below columns assignment.0 (none_first _ _ there), is_source table columns (target_of columns assignment.0) assignment.1 (none_first _ _ typed))
    (are_assignable table columns rest (none_next _ _ there) (none_next _ _ typed))

pub update_assignable : (def : TableDef) (table : List ℕ) (assigns : List (List ℕ × ValueSpec)) (tail : Tail) (r : Option Refusal) → r ≡ bad_update def table assigns tail → IfNone r (AreAssignable def.columns assigns)
update_assignable def table assigns tail (Some why) e = tt
update_assignable def table assigns tail None e =
    let both = none_first (bad_assigns table def.columns assigns) (option_or (bad_tail def table tail) None) (sym e) in
    are_assignable table def.columns assigns
    (none_first (first_in (bad_target def.columns) assigns) (option_or (first_in (bad_assign table def.columns) assigns) None) both)
    (none_first (first_in (bad_assign table def.columns) assigns) None (none_next (first_in (bad_target def.columns) assigns) (option_or (first_in (bad_assign table def.columns) assigns) None) both))

pub update_checked : (def : TableDef) (table : List ℕ) (assigns : List (List ℕ × ValueSpec)) (tail : Tail) (r : Option Refusal) → r ≡ bad_update def table assigns tail → IfNone r (IsCheckedCond def.columns tail.cond)
update_checked def table assigns tail (Some why) e = tt
update_checked def table assigns tail None e =
    let rest = none_first (bad_tail def table tail) None (none_next (bad_assigns table def.columns assigns) (option_or (bad_tail def table tail) None) (sym e)) in
    cond_checked table def.columns tail.cond (none_first (bad_cond table def.columns tail.cond) _ rest)

-- ---- a value that fits has room

int_room : (z : ℤ) → Fits kind.Int (cell.Int z) → is_in_range kind.Int (cell.Int z) ≡ true
int_room z h = grind (arith, ints)

big_room : (z : ℤ) → Fits kind.BigInt (cell.Int z) → is_in_range kind.BigInt (cell.Int z) ≡ true
big_room z h = grind (arith, ints)

day_room : (z : ℤ) → FitsDate z → is_in_range kind.Date (cell.Day z) ≡ true
day_room z h = grind (arith, ints)

has_room : (k : Kind) (v : Value) → Fits k v → is_in_range k v ≡ true
has_room kind.Int cell.Null fits = refl
has_room kind.BigInt cell.Null fits = refl
has_room kind.Date cell.Null fits = refl
has_room (kind.Binary most) cell.Null fits = refl
has_room kind.Int (cell.Int z) fits = int_room z fits
has_room kind.BigInt (cell.Int z) fits = big_room z fits
has_room kind.Date (cell.Int z) fits = refl
has_room (kind.Binary most) (cell.Int z) fits = refl
has_room kind.Int (cell.Day z) fits = refl
has_room kind.BigInt (cell.Day z) fits = refl
has_room kind.Date (cell.Day z) fits = day_room z fits
has_room (kind.Binary most) (cell.Day z) fits = refl
has_room kind.Int (cell.Bytes bytes) fits = refl
has_room kind.BigInt (cell.Bytes bytes) fits = refl
has_room kind.Date (cell.Bytes bytes) fits = refl
has_room (kind.Binary most) (cell.Bytes bytes) fits = le-leb _ _ fits

-- the default of a column fits it
default_fits_at : (columns : List Column) (at : ℕ) → at < length columns → AreFitting columns (map default_of columns) → Fits (kind_at columns at) (default_at columns at)
default_fits_at [] at below all = absurd (omega (arith, below))
default_fits_at (column ∷ columns) zero below all = all.0
default_fits_at (column ∷ columns) (suc at) below all = default_fits_at columns at (omega (arith, below)) all.1

roomy_fits : (k : Kind) (number : ℕ) (v : Value) → Fits k v → roomy k number v ≡ Ok v
roomy_fits k number v fits = ap (λ b. unless (refused_if (not b) (refusal.OutOfRange (arg.Number number))) v) (has_room k v fits)

pub default_gives : (columns : List Column) (number at : ℕ) (cells : List Value) (spec : ValueSpec) (v : Value) → at < length columns → AreFitting columns (map default_of columns)
    → spec ≡ value.Default → v ≡ default_at columns at → roomy (kind_at columns at) number (source_value columns cells at spec) ≡ Ok v
default_gives columns number at cells spec v below all is_default is =
    ap (λ own. roomy (kind_at columns at) number (source_value columns cells at own)) is_default
    ∙ roomy_fits (kind_at columns at) number (default_at columns at) (default_fits_at columns at below all)
    ∙ ap (λ own. Ok own) (sym is)

pub default_fits : (columns : List Column) (at : ℕ) (v : Value) → at < length columns → AreFitting columns (map default_of columns) → v ≡ default_at columns at → Fits (kind_at columns at) v
default_fits columns at v below all is = subst (Fits (kind_at columns at)) (sym is) (default_fits_at columns at below all)

-- ---- NULL in a NOT NULL column

set_keeps : (columns : List Column) (cells : List Value) (at : ℕ) (v : Value) → lacks_value columns cells ≡ false → is_wrong_null columns (at, v) ≡ false → lacks_value columns (slice_set cells at v) ≡ false
set_keeps [] cells at v none own = refl
set_keeps (column ∷ columns) [] at v none own = refl
set_keeps (column ∷ columns) (c ∷ cells) zero v none own = by (column.not_null && is_null c) none own
  where
    by : (b : Bool) → (b || lacks_value columns cells) ≡ false → (column.not_null && is_null v) ≡ false → (column.not_null && is_null v || lacks_value columns cells) ≡ false
    by true none own = let bad : true ≡ false = none in cc
    by false none own = ap (λ b. b || lacks_value columns cells) own ∙ none
set_keeps (column ∷ columns) (c ∷ cells) (suc at) v none own = by (column.not_null && is_null c) none (set_keeps columns cells at v)
  where
    by : (b : Bool) → (b || lacks_value columns cells) ≡ false → (lacks_value columns cells ≡ false → is_wrong_null columns (at, v) ≡ false → lacks_value columns (slice_set cells at v) ≡ false)
        → (b || lacks_value columns (slice_set cells at v)) ≡ false
    by true none more = let bad : true ≡ false = none in cc
    by false none more = more none own

kept_more : (columns : List Column) (now : Assigning) (at : ℕ) (v : Value) → IsKept columns now → IsKept columns (with_assigned columns now at v)
kept_more columns now at v kept = by now.wrong kept
  where
    by : (w : Bool) → (w ≡ false → lacks_value columns now.cells ≡ false) → (w || is_wrong_null columns (at, v)) ≡ false → lacks_value columns (slice_set now.cells at v) ≡ false
    by true old none = let bad : true ≡ false = none in cc
    by false old none = set_keeps columns now.cells at v (old refl) none

-- ---- one assignment

module _ (columns : List Column) (number : ℕ) (now : Assigning) (at : ℕ) (spec : ValueSpec) where
  abbrev own : Value
  own = source_value columns now.cells at spec

  abbrev by_room : Bool → Result Assigning Refusal
  by_room t = unless (refused_if t (refusal.OutOfRange (arg.Number number))) (with_assigned columns now at own)

  abbrev roomy_by : Bool → Result Value Refusal
  roomy_by t = unless (refused_if t (refusal.OutOfRange (arg.Number number))) own

  pub assigned_ok : (v : Value) → roomy (kind_at columns at) number own ≡ Ok v → assign columns number now at spec ≡ Ok (with_assigned columns now at v)
  assigned_ok v is = by (lacks_room columns (at, own)) is
    where
      by : (t : Bool) → roomy_by t ≡ Ok v → by_room t ≡ Ok (with_assigned columns now at v)
      by true e = let bad : Err (refusal.OutOfRange (arg.Number number)) ≡ Ok v = e in cc
      by false e = let same : own ≡ v = cc in ap (λ x. Ok (with_assigned columns now at x)) same

  pub assigned_err : (why : Refusal) → roomy (kind_at columns at) number own ≡ Err why → assign columns number now at spec ≡ Err why
  assigned_err why is = by (lacks_room columns (at, own)) is
    where
      by : (t : Bool) → roomy_by t ≡ Err why → by_room t ≡ Err why
      by true e = let same : refusal.OutOfRange (arg.Number number) ≡ why = cc in ap (λ x. Err x) same
      by false e = let bad : Ok own ≡ Err why = e in cc

  pub assigned_fails : (e : CellsFault) → Gives (roomy (kind_at columns at) number own) (Err e) → Gives (assign columns number now at spec) (Err e)
  assigned_fails (fault.Refused why) gives = assigned_err why gives
  assigned_fails fault.NoMemory gives = tt

-- what holds of the row with a value that fits
pub assigned_fits : (columns : List Column) (before later : Assigning) (at : ℕ) (v : Value) → later ≡ with_assigned columns before at v → AreFitting columns before.cells → Fits (kind_at columns at) v → AreFitting columns later.cells
assigned_fits columns before later at v is all one = subst (λ (now : Assigning). AreFitting columns now.cells) (sym is) (set_fits columns before.cells at v all one)

pub assigned_kept : (columns : List Column) (before later : Assigning) (at : ℕ) (v : Value) → later ≡ with_assigned columns before at v → IsKept columns before → IsKept columns later
assigned_kept columns before later at v is kept = subst (IsKept columns) (sym is) (kept_more columns before at v kept)

-- ---- all of them

module _ (columns : List Column) (number : ℕ) where
  abbrev judged : Bool → List Value → List (List ℕ × ValueSpec) → Result (List Value) Refusal
  judged wrong cells assigns =
      unless (option_or (refused_if (list_any (lacks_room columns) (assigned_values columns cells assigns)) (refusal.OutOfRange (arg.Number number)))
      (option_or (refused_if (wrong || list_any (is_wrong_null columns) (assigned_values columns cells assigns)) (refusal.NullNotAllowed number)) None))
      (with_values cells (assigned_values columns cells assigns))

  abbrev finish : Result Assigning Refusal → Result (List Value) Refusal
  finish (Ok now) = finished number now
  finish (Err why) = Err why

  join_tests : (a b c : Bool) → ((a || b) || c) ≡ (a || (b || c))
  join_tests true b c = refl
  join_tests false b c = refl

  module _ (now : Assigning) (assignment : List ℕ × ValueSpec) (rest : List (List ℕ × ValueSpec)) where
    abbrev place : ℕ
    place = target_of columns assignment.0

    abbrev given : Value
    given = source_value columns now.cells place assignment.1

    abbrev later : List (ℕ × Value)
    later = assigned_values columns (slice_set now.cells place given) rest

    abbrev wrong : Bool
    wrong = is_wrong_null columns (place, given)

    one_more : (t : Bool) → finish (assign_all columns number (with_assigned columns now place given) rest) ≡ judged (now.wrong || wrong) (slice_set now.cells place given) rest
        → finish (followed (unless (refused_if t (refusal.OutOfRange (arg.Number number))) (with_assigned columns now place given)) (λ next. assign_all columns number next rest))
        ≡ unless (option_or (refused_if (t || list_any (lacks_room columns) later) (refusal.OutOfRange (arg.Number number)))
        (option_or (refused_if (now.wrong || (wrong || list_any (is_wrong_null columns) later)) (refusal.NullNotAllowed number)) None))
        (with_values (slice_set now.cells place given) later)
    one_more true more = refl
    one_more false more =
        more
        ∙ ap (λ w. unless (option_or (refused_if (list_any (lacks_room columns) later) (refusal.OutOfRange (arg.Number number))) (option_or (refused_if w (refusal.NullNotAllowed number)) None)) (with_values (slice_set now.cells place given) later))
        (join_tests now.wrong wrong (list_any (is_wrong_null columns) later))

  all_assigned : (now : Assigning) (assigns : List (List ℕ × ValueSpec)) → finish (assign_all columns number now assigns) ≡ judged now.wrong now.cells assigns
  all_assigned now [] = by now.wrong
    where
      by : (w : Bool) → cond w (Err (refusal.NullNotAllowed number)) (Ok now.cells) ≡ unless (option_or (refused_if (w || false) (refusal.NullNotAllowed number)) None) now.cells
      by true = refl
      by false = refl
  all_assigned now (assignment ∷ rest) =
      one_more now assignment rest (lacks_room columns (target_of columns assignment.0, source_value columns now.cells (target_of columns assignment.0) assignment.1))
      (all_assigned (with_assigned columns now (target_of columns assignment.0) (source_value columns now.cells (target_of columns assignment.0) assignment.1)) rest)

-- where the row begins
abbrev pub unassigned : List Value → Assigning
unassigned cells = record { cells = cells; wrong = false }

module _ (def : TableDef) (assigns : List (List ℕ × ValueSpec)) (number : ℕ) (cells : List Value) where
  whole : finish def.columns number (assign_all def.columns number (unassigned cells) assigns) ≡ updated_cells def assigns number cells
  whole = all_assigned def.columns number (unassigned cells) assigns

  pub updated_ok : (now : Assigning) → assign_all def.columns number (unassigned cells) assigns ≡ Ok now → now.wrong ≡ false → updated_cells def assigns number cells ≡ Ok now.cells
  updated_ok now is none = sym whole ∙ ap (finish def.columns number) is ∙ ap (λ w. cond w (Err (refusal.NullNotAllowed number)) (Ok now.cells)) none

  pub updated_null : (now : Assigning) → assign_all def.columns number (unassigned cells) assigns ≡ Ok now → now.wrong ≡ true → updated_cells def assigns number cells ≡ Err (refusal.NullNotAllowed number)
  updated_null now is some = sym whole ∙ ap (finish def.columns number) is ∙ ap (λ w. cond w (Err (refusal.NullNotAllowed number)) (Ok now.cells)) some

  pub updated_fails : (e : CellsFault) → Gives (assign_all def.columns number (unassigned cells) assigns) (Err e) → Gives (updated_cells def assigns number cells) (Err e)
  updated_fails (fault.Refused why) gives = sym whole ∙ ap (finish def.columns number) gives
  updated_fails fault.NoMemory gives = tt

-- ---- a fault that is handed on

pub at_fault : {A : Type 0} (P : Result A CellsFault → Type 0) (r : Result A CellsFault) (told e : CellsFault) → r ≡ Err told → told ≡ e → P (Err e) → P r
at_fault P r told e is same here = subst P (sym is) (subst (λ x. P (Err x)) (sym same) here)

-- ---- the loop

-- what holds before the assignment at place i
pub record AreMade (columns : List Column) (number : ℕ) (assigns : List (List ℕ × ValueSpec)) (start now : Assigning) (i : ℕ) : Type 0 where
  pub rest : assign_all columns number now (drop i assigns) ≡ assign_all columns number start assigns
  pub fitting : AreFitting columns now.cells
  pub kept : IsKept columns now

module _ (columns : List Column) (number : ℕ) (assigns : List (List ℕ × ValueSpec)) (start : Assigning) where
  -- the position of the column that the assignment at place i sets
  pub target_at : (i : ℕ) (assignment : List ℕ × ValueSpec) → i < length assigns → get_or assigns i assignment ≡ assignment → get_or (set_targets columns assigns) i 0 ≡ target_of columns assignment.0
  target_at i assignment below is =
      get_or-map (λ (a : List ℕ × ValueSpec). target_of columns a.0) assigns i assignment 0 below ∙ ap (λ (a : List ℕ × ValueSpec). target_of columns a.0) is

  -- its value is well typed
  pub source_at : (i : ℕ) (assignment : List ℕ × ValueSpec) → i < length assigns → get_or assigns i assignment ≡ assignment → AreAssignable columns assigns → IsAssignable columns assignment
  source_at i assignment below is all = subst (IsAssignable columns) is (all i assignment below)

  next_made : (now : Assigning) (i : ℕ) (assignment : List ℕ × ValueSpec) → i < length assigns → get_or assigns i assignment ≡ assignment
      → assign_all columns number now (drop i assigns) ≡ followed (assign columns number now (target_of columns assignment.0) assignment.1) (λ later. assign_all columns number later (drop (i + 1) assigns))
  next_made now i assignment below is =
      at_drop_more (assign_all columns number now) assigns i assignment below
      ∙ ap (λ (a : List ℕ × ValueSpec). followed (assign columns number now (target_of columns a.0) a.1) (λ later. assign_all columns number later (drop (i + 1) assigns))) is

  pub made_more : (now done : Assigning) (i : ℕ) (assignment : List ℕ × ValueSpec) → i < length assigns → get_or assigns i assignment ≡ assignment → AreMade columns number assigns start now i
      → assign columns number now (target_of columns assignment.0) assignment.1 ≡ Ok done → AreFitting columns done.cells → IsKept columns done → AreMade columns number assigns start done (i + 1)
  made_more now done i assignment below is had gives fitting kept = record {
    rest = sym (next_made now i assignment below is ∙ ap (λ r. followed r (λ next. assign_all columns number next (drop (i + 1) assigns))) gives) ∙ had.rest;
    fitting = fitting;
    kept = kept;
  }

  pub made_fails : (now : Assigning) (i : ℕ) (assignment : List ℕ × ValueSpec) (e : CellsFault) → i < length assigns → get_or assigns i assignment ≡ assignment → AreMade columns number assigns start now i
      → Gives (assign columns number now (target_of columns assignment.0) assignment.1) (Err e) → Gives (assign_all columns number start assigns) (Err e)
  made_fails now i assignment (fault.Refused why) below is had gives =
      sym had.rest ∙ next_made now i assignment below is ∙ ap (λ r. followed r (λ next. assign_all columns number next (drop (i + 1) assigns))) gives
  made_fails now i assignment fault.NoMemory below is had gives = tt

  pub made_all : (now : Assigning) (i : ℕ) → length assigns ≤ i → AreMade columns number assigns start now i → assign_all columns number start assigns ≡ Ok now
  made_all now i past had = sym had.rest ∙ at_drop_all (assign_all columns number now) assigns i past
