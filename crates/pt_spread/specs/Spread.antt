-- Where rows stand under a definition. MySQL 5.7 manual, section 22.3, "Partition Management": the rows of a table that is partitioned anew
-- go to the partitions that take them, and where no partition takes a row the statement is refused.
use Rattle.std.specs.Prelude.{◌≡◌, ℕ, ◌+◌, ◌*◌, Bool, not, List, [], ◌∷◌, ◌++◌, map, Option, Some, None, Result, Ok, Err, is_some}
use Rattle.std.specs.List.{position_from}
use Rattle.std.specs.Ordering.{nat_cmp}
use Rattle.pt_ast.specs.declared.database.Row.{Row}
use Rattle.pt_ast.specs.declared.database.Spot.{Spot}
use Rattle.pt_ast.specs.declared.table.TableDef.{TableDef}
use Rattle.pt_place.specs.Place.{place_of}
use Rattle.pt_checks.specs.Ordered.{in_order}
use Rattle.pt_db.specs.Rows.{spot_rows}
use Rattle.pt_db.specs.Spots.{spots_of, sub_count}
use Rattle.pt_spread.specs.declared.fault.SpreadFault.{SpreadFault}
use Rattle.pt_spread.specs.declared.fault.SpreadFault.TheVariants.{Unplaced, NoMemory}

-- the rows by rising serial
abbrev pub by_serial : List Row → List Row
by_serial rows = in_order (λ a b. nat_cmp a.serial b.serial) rows

-- no partition takes the row
abbrev pub is_unplaced : TableDef → Row → Bool
is_unplaced def row = not (is_some (place_of def row.cells))

-- the number, from 1, of the first of these rows that no partition takes
abbrev pub first_unplaced : TableDef → List Row → Option ℕ
first_unplaced def rows = position_from (is_unplaced def) 1 rows

-- the rows of each spot, in the order of the definition
abbrev pub rows_by_spot : TableDef → List Row → List (Spot × List Row)
rows_by_spot def rows = map (λ spot. (spot, spot_rows def spot rows)) (spots_of def)

-- These rows stand in the spots of the definition, or the first that doesn't is told.
abbrev pub IsSpread : TableDef → List Row → Result (List (Spot × List Row)) SpreadFault → Type 0
IsSpread def rows (Ok found) = (first_unplaced def rows ≡ None) × (found ≡ rows_by_spot def rows)
IsSpread def rows (Err (Unplaced number)) = first_unplaced def rows ≡ Some number
IsSpread def rows (Err NoMemory) = Unit {0}

-- ---- for the code

-- the number of a spot among those of its definition, where each partition has as many
abbrev pub number_of : TableDef → Spot → ℕ
number_of def spot = spot.part * sub_count def spot.part + spot.sub

-- a spot without rows
abbrev pub beside_none : Spot → Spot × List Row
beside_none spot = (spot, [])

-- a row more in a spot
abbrev pub with_last : Row → Spot × List Row → Spot × List Row
with_last row own = (own.0, own.1 ++ row ∷ [])
