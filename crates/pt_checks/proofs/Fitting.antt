-- Values and cells that fit their columns.
use Rattle.std.proofs.Common.{◌≡◌, ℕ, zero, suc, Bool, true, false, List, [], ◌∷◌, ◌++◌, map, All, Option, Some, None, ℤ, refl, arith, slice_set}
use Rattle.std.specs.Prelude.{unwrap_or}
use Rattle.std.proofs.lemmas.Int.{ints}
use Rattle.std.proofs.lemmas.Bool.{leb-true, not-false, or_parts}
use Rattle.std.proofs.lemmas.List.Elements.{All-nil, All-cons}
use Rattle.pt_value.specs.Fits.{Fits, FitsDate}
use Rattle.pt_value.specs.Text.{CanShow}
use Rattle.pt_value.specs.declared.value.Value.{Value}
use Rattle.pt_value.specs.declared.value.Value.TheVariants as value
use Rattle.pt_value.specs.declared.value.Kind.{Kind}
use Rattle.pt_value.specs.declared.value.Kind.TheVariants as kind
use Rattle.pt_ast.specs.declared.table.Column.{Column}
use Rattle.pt_ast.specs.declared.table.KeyDef.{KeyDef}
use Rattle.pt_ast.specs.declared.table.TableDef.{TableDef}
use Rattle.pt_expr.specs.declared.kind.ExprKind.{ExprKind}
use Rattle.pt_expr.specs.declared.kind.ExprKind.TheVariants as expr
use Rattle.pt_expr.specs.Columns.{AreFitting}
use Rattle.pt_expr.specs.Kinds.{HasKind}
use Rattle.pt_place.specs.Checks.{is_default_out, is_default_wrong}
use Rattle.pt_place.specs.First.{first_of, in_turn, in_turn_from}
use Rattle.pt_place.specs.Fitting.{is_in_range, is_of_kind, kind_at}
use Rattle.pt_place.specs.Valid.{IsValid, bad_column, bad_items, bad_key, bad_kinds, bad_parts}
use Rattle.pt_place.proofs.Firsts.{none_first, none_next, passes}
use Rattle.pt_checks.specs.Cells.{default_of, has_kind}

-- ---- one value

int_fits : (n : ℤ) → is_in_range kind.Int (value.Int n) ≡ true → Fits kind.Int (value.Int n)
int_fits n h = grind (arith, ints)

big_fits : (n : ℤ) → is_in_range kind.BigInt (value.Int n) ≡ true → Fits kind.BigInt (value.Int n)
big_fits n h = grind (arith, ints)

day_fits : (day : ℤ) → is_in_range kind.Date (value.Day day) ≡ true → FitsDate day
day_fits day h = grind (arith, ints)

-- of the kind, and not too large for it
pub fits : (k : Kind) (v : Value) → is_of_kind k v ≡ true → is_in_range k v ≡ true → Fits k v
fits k value.Null own room = tt
fits kind.Int (value.Int n) own room = int_fits n room
fits kind.Int (value.Day day) own room = cc
fits kind.Int (value.Bytes bytes) own room = cc
fits kind.BigInt (value.Int n) own room = big_fits n room
fits kind.BigInt (value.Day day) own room = cc
fits kind.BigInt (value.Bytes bytes) own room = cc
fits kind.Date (value.Int n) own room = cc
fits kind.Date (value.Day day) own room = day_fits day room
fits kind.Date (value.Bytes bytes) own room = cc
fits (kind.Binary most) (value.Int n) own room = cc
fits (kind.Binary most) (value.Day day) own room = cc
fits (kind.Binary most) (value.Bytes bytes) own room = leb-true _ _ room

-- the value of an expression of a kind that the column takes is of the column's kind
pub of_kind : (k : Kind) (own : ExprKind) (v : Value) → HasKind own v → has_kind k own ≡ true → is_of_kind k v ≡ true
of_kind k own value.Null has takes = refl
of_kind k expr.Any (value.Int n) has takes = absurd has
of_kind kind.Int expr.Wide (value.Int n) has takes = refl
of_kind kind.BigInt expr.Wide (value.Int n) has takes = refl
of_kind kind.Date expr.Wide (value.Int n) has takes = cc
of_kind (kind.Binary most) expr.Wide (value.Int n) has takes = cc
of_kind k expr.Day (value.Int n) has takes = absurd has
of_kind k expr.Bytes (value.Int n) has takes = absurd has
of_kind k expr.Any (value.Day day) has takes = absurd has
of_kind k expr.Wide (value.Day day) has takes = absurd has
of_kind kind.Int expr.Day (value.Day day) has takes = cc
of_kind kind.BigInt expr.Day (value.Day day) has takes = cc
of_kind kind.Date expr.Day (value.Day day) has takes = refl
of_kind (kind.Binary most) expr.Day (value.Day day) has takes = cc
of_kind k expr.Bytes (value.Day day) has takes = absurd has
of_kind k expr.Any (value.Bytes bytes) has takes = absurd has
of_kind k expr.Wide (value.Bytes bytes) has takes = absurd has
of_kind k expr.Day (value.Bytes bytes) has takes = absurd has
of_kind kind.Int expr.Bytes (value.Bytes bytes) has takes = cc
of_kind kind.BigInt expr.Bytes (value.Bytes bytes) has takes = cc
of_kind kind.Date expr.Bytes (value.Bytes bytes) has takes = cc
of_kind (kind.Binary most) expr.Bytes (value.Bytes bytes) has takes = refl

-- ---- defaults

default_fits : (k : Kind) (not_null : Bool) (d : Option Value) → is_default_out k d ≡ false → is_default_wrong k not_null d ≡ false → Fits k (unwrap_or d value.Null)
default_fits k not_null (Some v) out wrong = fits k v (not-false _ (or_parts _ _ wrong).0) (not-false _ out)
default_fits k not_null None out wrong = tt

column_fits : (keys : List KeyDef) (before : List Column) (column : Column) → bad_column keys before column ≡ None → Fits column.kind (default_of column)
column_fits keys before column e =
    let behind = none_next _ _ e in
    let out = passes _ _ (none_first _ _ behind) in
    let wrong = passes _ _ (none_first _ _ (none_next _ _ behind)) in
    default_fits column.kind column.not_null column.default (or_parts _ _ out).1 (or_parts _ _ wrong).0

columns_fit : (keys : List KeyDef) (before columns : List Column) → in_turn_from (bad_column keys) before columns ≡ None → AreFitting columns (map default_of columns)
columns_fit keys before [] e = tt
columns_fit keys before (column ∷ columns) e = (column_fits keys before column (none_first _ _ e), columns_fit keys (before ++ column ∷ []) columns (none_next _ _ e))

-- the defaults of a valid definition fit its columns
pub defaults_fit : (def : TableDef) → IsValid def → AreFitting def.columns (map default_of def.columns)
defaults_fit def valid =
    let items = none_first (bad_items def) (first_of (bad_kinds valid.0 def ∷ bad_parts valid.0 def ∷ [])) valid.1 in
    columns_fit def.keys [] def.columns (none_first (in_turn (bad_column def.keys) def.columns) (first_of (in_turn (bad_key def.columns) def.keys ∷ [])) items)

-- ---- cells

-- with a fitting value in the place of a cell
pub set_fits : (columns : List Column) (cells : List Value) (at : ℕ) (v : Value) → AreFitting columns cells → Fits (kind_at columns at) v → AreFitting columns (slice_set cells at v)
set_fits [] [] at v all one = tt
set_fits [] (cell ∷ cells) at v all one = absurd all
set_fits (column ∷ columns) [] at v all one = absurd all
set_fits (column ∷ columns) (cell ∷ cells) zero v all one = (one, all.1)
set_fits (column ∷ columns) (cell ∷ cells) (suc at) v all one = (all.0, set_fits columns cells at v all.1 one)

-- ---- what can be shown

fitting_shows : (k : Kind) (v : Value) → Fits k v → CanShow v
fitting_shows k value.Null h = tt
fitting_shows k (value.Int n) h = tt
fitting_shows kind.Int (value.Day day) h = absurd h
fitting_shows kind.BigInt (value.Day day) h = absurd h
fitting_shows kind.Date (value.Day day) h = h
fitting_shows (kind.Binary most) (value.Day day) h = absurd h
fitting_shows k (value.Bytes bytes) h = tt

pub cells_show : (columns : List Column) (cells : List Value) → AreFitting columns cells → All CanShow cells
cells_show [] [] h = All-nil CanShow
cells_show [] (cell ∷ cells) h = absurd h
cells_show (column ∷ columns) [] h = absurd h
cells_show (column ∷ columns) (cell ∷ cells) h = All-cons CanShow cell cells (fitting_shows column.kind cell h.0) (cells_show columns cells h.1)
