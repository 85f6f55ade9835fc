-- For the code: what is read of the rows of a table. Nothing public cites these. MySQL 5.7 manual, section 22.5, "Partition Selection".
use Rattle.std.specs.Prelude.{ℕ, List, Option, filter}
use Rattle.pt_ast.specs.declared.database.Row.{Row}
use Rattle.pt_ast.specs.declared.database.Spot.{Spot}
use Rattle.pt_ast.specs.declared.table.TableDef.{TableDef}
use Rattle.pt_ast.specs.declared.tree.Cond.{Cond}
use Rattle.pt_checks.specs.Wanted.{is_named_spot, is_wanted}
use Rattle.pt_db.specs.Rows.{spot_rows}
use Rattle.pt_db.specs.Spots.{spots_of}

-- The spots whose rows are read, in the order of the definition: those that a PARTITION list names, and all without one.
abbrev pub spots_read : TableDef → Option (List (List ℕ)) → List Spot
spots_read def parts = filter (is_named_spot def parts) (spots_of def)

-- those of some rows that a statement takes
abbrev pub wanted_of : TableDef → Option (List (List ℕ)) → Option Cond → List Row → List Row
wanted_of def parts cond rows = filter (is_wanted def parts cond) rows

-- those of a table's rows that a statement takes and that stand in a spot
abbrev pub wanted_in : TableDef → Option (List (List ℕ)) → Option Cond → List Row → Spot → List Row
wanted_in def parts cond rows spot = wanted_of def parts cond (spot_rows def spot rows)
