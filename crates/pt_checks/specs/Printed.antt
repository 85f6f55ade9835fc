-- What SELECT answers: a line for each row, its values with tabs between them, and then the number of rows.
use Rattle.std.specs.Prelude.{ℕ, zero, suc, false, List, [], ◌∷◌, ◌++◌, map, length, codes, Option, Some, None}
use Rattle.std.specs.List.{flat_map}
use Rattle.std.specs.Fmt.{decimal}
use Rattle.pt_value.specs.Text.{shown}
use Rattle.pt_value.specs.declared.value.Value.{Value}
use Rattle.pt_ast.specs.declared.tree.Expr.{Expr}
use Rattle.pt_ast.specs.declared.table.Column.{Column}
use Rattle.pt_ast.specs.declared.database.Row.{Row}
use Rattle.pt_expr.specs.Values.{whole_value}

-- the texts of a row's values: those of the expressions, and of all columns for `*`
abbrev pub texts_of : List Column → Option (List Expr) → List Value → List (List ℕ)
texts_of columns (Some exprs) cells = map (λ expr. shown (whole_value columns expr false cells)) exprs
texts_of columns None cells = map shown cells

-- texts with a tab, the byte 9, before each but the first
abbrev pub with_tabs : List (List ℕ) → List ℕ
with_tabs [] = []
with_tabs (text ∷ texts) = text ++ flat_map (λ next. 9 ∷ next) texts

-- the tab before the text at a place
abbrev pub tab_at : ℕ → List ℕ
tab_at zero = []
tab_at (suc place) = 9 ∷ []

-- a line, ended by the byte 10
abbrev pub row_text : List Column → Option (List Expr) → List Value → List ℕ
row_text columns items cells = with_tabs (texts_of columns items cells) ++ 10 ∷ []

abbrev pub count_text : ℕ → List ℕ
count_text count = codes "rows " ++ decimal count ++ 10 ∷ []

abbrev pub select_text : List Column → Option (List Expr) → List Row → List ℕ
select_text columns items rows = flat_map (λ row. row_text columns items row.cells) rows ++ count_text (length rows)
