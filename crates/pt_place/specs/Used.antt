-- In the shape of the code: names part by part. Nothing public cites these.
use Rattle.std.specs.Prelude.{ℕ, Bool, List}
use Rattle.std.specs.List.{flat_map, filter_map, list_all}
use Rattle.pt_ast.specs.declared.tree.Expr.{Expr}
use Rattle.pt_ast.specs.declared.table.Column.{Column}
use Rattle.pt_ast.specs.declared.table.KeyDef.{KeyDef}
use Rattle.pt_place.specs.Checks.{has_column}
use Rattle.pt_place.specs.Names.{column_of, names_in}

-- the names in the parts of a sum or a product
abbrev pub named : {X : Type 0} → List (X × Expr) → List (List ℕ)
named {X} parts = flat_map (λ (part : X × Expr). names_in part.1) parts

-- a key has the columns of these names
abbrev pub has_names : KeyDef → List Column → List (List ℕ) → Bool
has_names key columns names = list_all (has_column key) (filter_map (column_of columns) names)
