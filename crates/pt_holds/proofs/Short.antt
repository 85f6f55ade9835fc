-- A row that fits the columns of a definition can be written.
use Rattle.std.proofs.Common.{◌≡◌, ℕ, suc, ◌≤◌, Bool, true, false, ◌||◌, List, [], ◌∷◌, ◌++◌, length, None, refl, ap, arith}
use Rattle.std.specs.Prelude.{nat_lt}
use Rattle.std.specs.List.{All}
use Rattle.std.proofs.lemmas.Bool.{or_parts}
use Rattle.std.proofs.lemmas.List.Elements.{All-cons, All-nil}
use Rattle.pt_value.specs.Fits.{Fits}
use Rattle.pt_value.specs.declared.value.Kind.{Kind}
use Rattle.pt_value.specs.declared.value.Kind.TheVariants as kind
use Rattle.pt_value.specs.declared.value.Value.{Value}
use Rattle.pt_value.specs.declared.value.Value.TheVariants.{Null, Int, Day, Bytes}
use Rattle.pt_ast.specs.declared.database.Row.{Row}
use Rattle.pt_ast.specs.declared.refusal.Arg.TheVariants as arg
use Rattle.pt_ast.specs.declared.refusal.Refusal.TheVariants as refusal
use Rattle.pt_ast.specs.declared.table.Column.{Column}
use Rattle.pt_ast.specs.declared.table.KeyDef.{KeyDef}
use Rattle.pt_ast.specs.declared.table.TableDef.{TableDef}
use Rattle.pt_ast.specs.StorableDef.{IsStorableDef}
use Rattle.pt_expr.specs.Columns.{AreFitting}
use Rattle.pt_place.specs.Checks.{is_default_out, is_default_wrong, is_too_long, twice}
use Rattle.pt_place.specs.First.{first_of, in_turn, in_turn_from, refused_if}
use Rattle.pt_place.specs.Names.{names_of}
use Rattle.pt_place.specs.Valid.{IsValid, bad_column, bad_items, bad_key, bad_kinds, bad_parts, is_nullable_primary}
use Rattle.pt_place.proofs.Firsts.{none_first, none_next, passes}
use Rattle.pt_rowfile.specs.Rows.{is_serial}
use Rattle.pt_rowfile.specs.Written.{IsShortCell, IsShortRow}
use Rattle.pt_holds.specs.Fit.{FitsColumns}

at_most : (n : ℕ) → nat_lt 4096 n ≡ false → n ≤ 4096
at_most n e = go (nat_lt 4096 n) refl e
  where
    go : (t : Bool) → nat_lt 4096 n ≡ t → t ≡ false → n ≤ 4096
    go true is h = cc
    go false is h = grind (arith, is)

short_cell : (k : Kind) (cell : Value) → is_too_long k ≡ false → Fits k cell → IsShortCell cell
short_cell k Null e fits = tt
short_cell k (Int n) e fits = tt
short_cell k (Day day) e fits = tt
short_cell kind.Int (Bytes bytes) e fits = absurd fits
short_cell kind.BigInt (Bytes bytes) e fits = absurd fits
short_cell kind.Date (Bytes bytes) e fits = absurd fits
short_cell (kind.Binary most) (Bytes bytes) e fits = let low = at_most most e in let h : length bytes ≤ most = fits in omega (arith, low, h)

not_too_long : (keys : List KeyDef) (before : List Column) (column : Column) → bad_column keys before column ≡ None → is_too_long column.kind ≡ false
not_too_long keys before column e =
    let wrong = refused_if (is_default_wrong column.kind column.not_null column.default || is_nullable_primary keys (length before) column) (refusal.TypeMismatch (arg.Name column.name)) in
    let out = refused_if (is_too_long column.kind || is_default_out column.kind column.default) (refusal.OutOfRange (arg.Name column.name)) in
    let second = none_first out (first_of (wrong ∷ [])) (none_next (twice (names_of before) column.name) (first_of (out ∷ wrong ∷ [])) e) in
    (or_parts (is_too_long column.kind) (is_default_out column.kind column.default) (passes (is_too_long column.kind || is_default_out column.kind column.default) (refusal.OutOfRange (arg.Name column.name)) second)).0

short_cells : (keys : List KeyDef) (before columns : List Column) (cells : List Value) → in_turn_from (bad_column keys) before columns ≡ None → AreFitting columns cells → All IsShortCell cells
short_cells keys before [] [] e fits = All-nil IsShortCell
short_cells keys before [] (cell ∷ cells) e fits = absurd fits
short_cells keys before (column ∷ columns) [] e fits = absurd fits
short_cells keys before (column ∷ columns) (cell ∷ cells) e fits =
    let rest = in_turn_from (bad_column keys) (before ++ column ∷ []) columns in
    All-cons IsShortCell cell cells (short_cell column.kind cell (not_too_long keys before column (none_first (bad_column keys before column) rest e)) fits.0)
    (short_cells keys (before ++ column ∷ []) columns cells (none_next (bad_column keys before column) rest e) fits.1)

one_each : (columns : List Column) (cells : List Value) → AreFitting columns cells → length cells ≡ length columns
one_each [] [] fits = refl
one_each [] (cell ∷ cells) fits = absurd fits
one_each (column ∷ columns) [] fits = absurd fits
one_each (column ∷ columns) (cell ∷ cells) fits = ap (λ (n : ℕ). suc n) (one_each columns cells fits.1)

pub fit_short : (def : TableDef) (row : Row) → IsStorableDef def → IsValid def → FitsColumns def row → is_serial row.serial ≡ true → IsShortRow row
fit_short def row storable valid fits serial =
    let items = none_first (bad_items def) (first_of (bad_kinds valid.0 def ∷ bad_parts valid.0 def ∷ [])) valid.1 in
    let columns = none_first (in_turn (bad_column def.keys) def.columns) (first_of (in_turn (bad_key def.columns) def.keys ∷ [])) items in
    record {
      serial = serial;
      few = (let most : length def.columns ≤ 1_000_000 = storable.most in omega (arith, most, one_each def.columns row.cells fits.cells));
      short = short_cells def.keys [] def.columns row.cells columns fits.cells;
    }
