-- Statements that give a table another definition. MySQL 5.7 manual, section 22.3, "Partition Management".
use Rattle.std.specs.Prelude.{◌≡◌, ℕ, List, Ok}
use Rattle.pt_ast.specs.declared.database.Db.{Db}
use Rattle.pt_ast.specs.declared.database.Row.{Row}
use Rattle.pt_ast.specs.declared.database.Spot.{Spot}
use Rattle.pt_ast.specs.declared.table.TableDef.{TableDef}
use Rattle.pt_db.specs.Outcome.{Outcome}
use Rattle.pt_db.specs.Texts.{ok_text}
use Rattle.pt_holds.specs.ShapeChanges.{IsAlterOf}

-- The statement answers `ok`, and the table of this name has this definition; the rows of each spot are those that are given for it, and
-- else those that stood under its leaf name.
pub record Redefines (name : List ℕ) (def : TableDef) (fresh : List (Spot × List Row)) (db : Db) (outcome : Outcome) : Type 0 where
  pub later : Db
  pub is : outcome ≡ Ok (record { db = later; text = ok_text })
  pub change : IsAlterOf name def fresh db later
