-- Which rows a statement takes, and in which order. MySQL 5.7 manual, section 22.5, "Partition Selection", and section 13.2.9, "SELECT
-- Syntax": rows for which WHERE is TRUE, in the order of ORDER BY, where NULL is lowest, and at most LIMIT of them.
use Rattle.std.specs.Prelude.{ℕ, ℤ, unsigned_abs, Bool, true, false, ◌&&◌, List, [], ◌∷◌, filter, filter_map, take, slice_index_or, unwrap_or, Option, Some, None, if◌then◌else◌}
use Rattle.std.specs.Option.{option_map, option_map_or}
use Rattle.std.specs.declared.cmp.Ordering.{Ordering}
use Rattle.std.specs.declared.cmp.Ordering.TheVariants.{Equal}
use Rattle.std.specs.Ordering.{nat_cmp, ordering_then}
use Rattle.pt_value.specs.Value.{value_cmp}
use Rattle.pt_value.specs.declared.value.Value.{Value}
use Rattle.pt_value.specs.declared.value.Value.TheVariants.{Null}
use Rattle.pt_value.specs.declared.truth.Truth.{Truth}
use Rattle.pt_value.specs.declared.truth.Truth.TheVariants.{True}
use Rattle.pt_ast.specs.declared.tree.Cond.{Cond}
use Rattle.pt_ast.specs.declared.table.Column.{Column}
use Rattle.pt_ast.specs.declared.table.TableDef.{TableDef}
use Rattle.pt_ast.specs.declared.database.Row.{Row}
use Rattle.pt_ast.specs.declared.database.Spot.{Spot}
use Rattle.pt_ast.specs.declared.statement.Tail.{Tail}
use Rattle.pt_expr.specs.Truths.{truth}
use Rattle.pt_place.specs.Names.{column_of}
use Rattle.pt_place.specs.Place.{is_in_set, place_of}
use Rattle.pt_checks.specs.Ordered.{in_order}

-- ---- which rows

abbrev pub is_true : Truth → Bool
is_true True = true
is_true _ = false

-- WHERE is TRUE, or there is none
abbrev pub passes : List Column → Option Cond → List Value → Bool
passes columns (Some cond) cells = is_true (truth columns cells cond)
passes columns None cells = true

-- the spot is one of the partitions or subpartitions that are named, if some are
abbrev pub is_named_spot : TableDef → Option (List (List ℕ)) → Spot → Bool
is_named_spot def parts spot = is_in_set def (unwrap_or parts []) spot

-- the row stands in a named spot
abbrev pub is_in_parts : TableDef → Option (List (List ℕ)) → List Value → Bool
is_in_parts def parts cells = option_map_or (is_named_spot def parts) (place_of def cells) false

-- the row stands in a named spot, and WHERE is TRUE of it
abbrev pub is_wanted : TableDef → Option (List (List ℕ)) → Option Cond → Row → Bool
is_wanted def parts cond row = is_in_parts def parts row.cells && passes def.columns cond row.cells

-- ---- in which order

-- the position of a column of ORDER BY, true for DESC
abbrev pub by_of : List Column → List ℕ × Bool → Option (ℕ × Bool)
by_of columns by = option_map (λ at. (at, by.1)) (column_of columns by.0)

-- the positions of all of them
abbrev pub order_of : List Column → List (List ℕ × Bool) → List (ℕ × Bool)
order_of columns order = filter_map (by_of columns) order

-- by the cells at one position
abbrev pub at_cmp : ℕ → List Value → List Value → Ordering
at_cmp at a b = value_cmp (slice_index_or a at Null) (slice_index_or b at Null)

-- the other way round for DESC
abbrev pub cell_cmp : ℕ × Bool → List Value → List Value → Ordering
cell_cmp by a b = if by.1 then at_cmp by.0 b a else at_cmp by.0 a b

-- by the first of these columns that differs
abbrev pub cells_cmp : List (ℕ × Bool) → List Value → List Value → Ordering
cells_cmp [] a b = Equal
cells_cmp (by ∷ order) a b = ordering_then (cell_cmp by a b) (cells_cmp order a b)

-- By the columns of ORDER BY, and where they tie by rising serial, under DESC too.
abbrev pub row_cmp : List (ℕ × Bool) → Row → Row → Ordering
row_cmp order a b = ordering_then (cells_cmp order a.cells b.cells) (nat_cmp a.serial b.serial)

-- ---- how many

abbrev pub cut : {A : Type 0} → Option ℤ → List A → List A
cut (Some most) xs = take (unsigned_abs most) xs
cut None xs = xs

-- in the order of ORDER BY and then of rising serial, cut to LIMIT
abbrev pub arranged : List Column → Tail → List Row → List Row
arranged columns tail rows = cut tail.limit (in_order (row_cmp (order_of columns tail.order)) rows)

-- The rows that a statement takes of those of a table.
abbrev pub candidates : TableDef → Option (List (List ℕ)) → Tail → List Row → List Row
candidates def parts tail rows = arranged def.columns tail (filter (is_wanted def parts tail.cond) rows)
