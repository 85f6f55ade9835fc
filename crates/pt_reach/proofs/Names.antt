-- A column by its name and by its position.
use Rattle.std.proofs.Common.{◌≡◌, ℕ, zero, suc, ◌<◌, arith, Bool, true, false, List, [], ◌∷◌, length, get_or, Some, refl, sym, ap, ◌∙◌, cond}
use Rattle.std.specs.Prelude.{slice_index_or, is_some}
use Rattle.std.proofs.lemmas.Bool.{true≢false}
use Rattle.std.proofs.lemmas.List.Quantifiers.{position-Some}
use Rattle.pt_value.specs.declared.value.Value.{Value}
use Rattle.pt_value.specs.declared.value.Value.TheVariants.{Null}
use Rattle.pt_ast.specs.declared.table.Column.{Column}
use Rattle.pt_expr.specs.Columns.{cell_named, is_named}
use Rattle.pt_place.specs.Names.{column_of}
use Rattle.pt_reach.specs.May.{row_at}

at_place : (name : List ℕ) (columns : List Column) (cells : List Value) (c : ℕ) (d : Column) → c < length columns → is_named name (get_or columns c d) ≡ true
    → ((k : ℕ) → k < c → is_named name (get_or columns k d) ≡ false) → cell_named name columns cells ≡ slice_index_or cells c Null
at_place name [] cells c d within here before = absurd (omega (arith, within))
at_place name (column ∷ columns) [] c d within here before = refl
at_place name (column ∷ columns) (cell ∷ cells) zero d within here before = ap (λ (t : Bool). cond t cell (cell_named name columns cells)) here
at_place name (column ∷ columns) (cell ∷ cells) (suc c) d within here before =
    ap (λ (t : Bool). cond t cell (cell_named name columns cells)) (before 0 (omega arith))
    ∙ at_place name columns cells c d (omega (arith, within)) here (λ k h. before (suc k) (omega (arith, h)))

-- the cell of the first column of a name is that at its position
pub named_at : (name : List ℕ) (columns : List Column) (cells : List Value) (c : ℕ) → column_of columns name ≡ Some c → cell_named name columns cells ≡ slice_index_or cells c Null
named_at name [] cells c is = absurd (true≢false (sym (ap is_some is)))
named_at name (column ∷ columns) cells c is =
    let found = position-Some (is_named name) (column ∷ columns) c column is in
    at_place name (column ∷ columns) cells c column found.0 found.1 found.2

-- the row that has a value at a position
pub at_row : (c : ℕ) (v : Value) → slice_index_or (row_at c v) c Null ≡ v
at_row zero v = refl
at_row (suc c) v = at_row c v
