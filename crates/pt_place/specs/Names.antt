-- Names of columns and partitions, which are the same but for the case of ASCII letters: MySQL 5.7 manual, section 9.2.3,
-- "Identifier Case Sensitivity".
use Rattle.std.specs.Prelude.{ℕ, Bool, List, [], ◌∷◌, ◌++◌, map, slice_index_or, Option}
use Rattle.std.specs.List.{list_any, flat_map, filter_map, position}
use Rattle.std.specs.Str.{str_eq_ignore_ascii_case}
use Rattle.pt_ast.specs.declared.tree.Expr.{Expr, fold-Expr}
use Rattle.pt_ast.specs.declared.tree.Expr.TheOpen.{Expr-F}
use Rattle.pt_ast.specs.declared.table.Column.{Column}
use Rattle.pt_ast.specs.declared.table.PartBy.{PartBy}
use Rattle.pt_ast.specs.declared.table.PartBy.TheVariants as by
use Rattle.pt_expr.specs.Columns.{is_named}

-- the name is one of these
abbrev pub is_among : List ℕ → List (List ℕ) → Bool
is_among name names = list_any (str_eq_ignore_ascii_case name) names

abbrev pub names_of : List Column → List (List ℕ)
names_of columns = map (λ column. column.name) columns

-- the name of the column at a position, as the list of columns writes it
abbrev pub name_at : List Column → ℕ → List ℕ
name_at columns number = slice_index_or (names_of columns) number []

abbrev pub names_at : List Column → List ℕ → List (List ℕ)
names_at columns numbers = map (name_at columns) numbers

-- ---- the columns that a partitioning uses

-- the names in one node, after those in its parts
abbrev pub names_step : Expr-F (List (List ℕ)) → List (List ℕ)
names_step (Expr-F.Column name) = name ∷ []
names_step (Expr-F.Neg part) = part
names_step (Expr-F.Sum parts) = flat_map (λ part. part.1) parts
names_step (Expr-F.Product first parts) = first ++ flat_map (λ part. part.1) parts
names_step (Expr-F.Call func part) = part
names_step _ = []

-- the names in an expression, from left to right
abbrev pub names_in : Expr → List (List ℕ)
names_in = fold-Expr (List (List ℕ)) names_step

-- the position of the first column of a name, if there is one
abbrev pub column_of : List Column → List ℕ → Option ℕ
column_of columns name = position (is_named name) columns

-- the columns that an expression names
abbrev pub columns_in : List Column → Expr → List ℕ
columns_in columns expr = filter_map (column_of columns) (names_in expr)

abbrev pub columns_used : List Column → PartBy → List ℕ
columns_used columns by.Whole = []
columns_used columns (by.Range expr) = columns_in columns expr
columns_used columns (by.List expr) = columns_in columns expr
columns_used columns (by.RangeColumns numbers) = numbers
columns_used columns (by.ListColumns numbers) = numbers
columns_used columns (by.Hash linear expr) = columns_in columns expr
columns_used columns (by.Key linear numbers) = numbers
