-- The columns that an expression names, and the cells of a row.
use Rattle.std.specs.Prelude.{ℕ, Bool, List, [], ◌∷◌, Option, Some, None, if◌then◌else◌}
use Rattle.std.specs.Str.{str_eq_ignore_ascii_case}
use Rattle.pt_value.specs.Fits.{Fits}
use Rattle.pt_value.specs.declared.value.Value.{Value}
use Rattle.pt_value.specs.declared.value.Value.TheVariants.{Null}
use Rattle.pt_ast.specs.declared.table.Column.{Column}

-- whether a column has this name, but for the case of ASCII letters
abbrev pub is_named : List ℕ → Column → Bool
is_named name column = str_eq_ignore_ascii_case column.name name

-- the first column of this name
abbrev pub column_named : List ℕ → List Column → Option Column
column_named name [] = None
column_named name (column ∷ columns) = if is_named name column then Some column else column_named name columns

-- the cell of the first column of this name, NULL where there is none
abbrev pub cell_named : List ℕ → List Column → List Value → Value
cell_named name (column ∷ columns) (cell ∷ cells) = if is_named name column then cell else cell_named name columns cells
cell_named name _ _ = Null

-- a cell for each column, which fits its kind
abbrev pub AreFitting : List Column → List Value → Type 0
AreFitting [] [] = Unit {0}
AreFitting (column ∷ columns) (cell ∷ cells) = Fits column.kind cell × AreFitting columns cells
AreFitting _ _ = ⊥
