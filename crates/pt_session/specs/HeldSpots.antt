-- The files of the spots of a table.
use Rattle.std.specs.Prelude.{ℕ, List}
use Rattle.pt_host.specs.Disk.{Files}
use Rattle.pt_ast.specs.declared.database.Row.{Row}
use Rattle.pt_ast.specs.declared.database.Spot.{Spot}
use Rattle.pt_ast.specs.declared.table.TableDef.{TableDef}
use Rattle.pt_db.specs.Rows.{spot_rows}
use Rattle.pt_db.specs.Spots.{IsSpotOf}
use Rattle.pt_holds.specs.Holds.{HoldsRows, spot_file}

-- They hold these rows of the table.
pub record HoldsSpots (files : Files) (name : List ℕ) (def : TableDef) (rows : List Row) : Type 0 where
  pub each : (spot : Spot) → IsSpotOf def spot → HoldsRows files (spot_file name def spot) (spot_rows def spot rows)
