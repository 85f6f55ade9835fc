-- In the shape of the code: whether names are all those of one column. Nothing public cites these.
use Rattle.std.specs.Prelude.{ℕ, ◌==◌, List, Option, Some, None, if◌then◌else◌}
use Rattle.pt_ast.specs.declared.table.Column.{Column}
use Rattle.pt_place.specs.Names.{column_of}
use Rattle.pt_prune.specs.declared.columns.Lone.{Lone}
use Rattle.pt_prune.specs.declared.columns.Lone.TheVariants as lone

-- one more column, at a position
abbrev pub with_column : Lone → ℕ → Lone
with_column lone.Nothing c = lone.One c
with_column (lone.One own) c = if c == own then lone.One own else lone.Several
with_column lone.Several c = lone.Several

-- one more name, which may be that of no column
abbrev pub noted : Lone → Option ℕ → Lone
noted before (Some c) = with_column before c
noted before None = before

abbrev pub with_name : List Column → Lone → List ℕ → Lone
with_name columns before name = noted before (column_of columns name)

-- the column, where there is one and no other
abbrev pub sole_of : Lone → Option ℕ
sole_of lone.Nothing = None
sole_of (lone.One c) = Some c
sole_of lone.Several = None
