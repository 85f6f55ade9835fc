-- The order of bounds, and of tuples of bounds, one a column. MySQL 5.7 manual, section 22.2.1, "RANGE Partitioning", and section
-- 22.2.3.1, "RANGE COLUMNS partitioning".
use Rattle.std.specs.Prelude.{ℕ, ℤ, Bool, true, false, List, map, slice_index_or, Option, Some, None}
use Rattle.std.specs.declared.cmp.Ordering.{Ordering}
use Rattle.std.specs.declared.cmp.Ordering.TheVariants.{Less, Equal, Greater}
use Rattle.std.specs.Cmp.Lexicographic.{slice_cmp}
use Rattle.pt_value.specs.Value.{value_cmp}
use Rattle.pt_value.specs.declared.value.Value.{Value}
use Rattle.pt_value.specs.declared.value.Value.TheVariants.{Null, Int}
use Rattle.pt_ast.specs.declared.table.Bound.{Bound}
use Rattle.pt_ast.specs.declared.table.Bound.TheVariants.{Val, Max}

-- MAXVALUE is above every value, and equal to itself
abbrev pub bound_cmp : Bound → Bound → Ordering
bound_cmp (Val a) (Val b) = value_cmp a b
bound_cmp (Val a) Max = Less
bound_cmp Max (Val b) = Greater
bound_cmp Max Max = Equal

-- tuples compare at the first column in which they differ
abbrev pub tuple_cmp : List Bound → List Bound → Ordering
tuple_cmp = slice_cmp bound_cmp

abbrev pub is_max : Bound → Bool
is_max (Val value) = false
is_max Max = true

-- what an expression came to, as a value
abbrev pub value_of : Option ℤ → Value
value_of None = Null
value_of (Some number) = Int number

-- the cells of the columns at these positions
abbrev pub cells_at : List Value → List ℕ → List Value
cells_at cells columns = map (λ column. slice_index_or cells column Null) columns
