-- The change of rows that a statement makes.
use Rattle.std.specs.Prelude.{◌≡◌, ℕ, ◌<◌, List, [], length, unwrap_or, Ok}
use Rattle.pt_value.specs.declared.value.Value.{Value}
use Rattle.pt_ast.specs.declared.database.Db.{Db}
use Rattle.pt_ast.specs.declared.database.Row.{Row}
use Rattle.pt_ast.specs.declared.database.Spot.{Spot}
use Rattle.pt_ast.specs.declared.table.TableDef.{TableDef}
use Rattle.pt_place.specs.Place.{place_of}
use Rattle.pt_db.specs.Outcome.{Outcome}
use Rattle.pt_holds.specs.RowChanges.{IsChangeOf}
use Rattle.pt_holds.specs.declared.change.RowChange.{RowChange}

-- the spot of cells that have a place
abbrev pub spot_of : TableDef → List Value → Spot
spot_of def cells = unwrap_or (place_of def cells) (record { part = 0; sub = 0 })

-- a row that goes: its spot and its serial
abbrev pub delete_of : TableDef → Row → Spot × ℕ
delete_of def row = (spot_of def row.cells, row.serial)

-- The outcome is this change of the database, with this answer; and it leaves another database exactly where a row goes.
pub record MeansRows (made : RowChange) (db : Db) (text : List ℕ) (outcome : Outcome) : Type 0 where
  pub later : Db
  pub is : outcome ≡ Ok (record { db = later; text = text })
  pub change : IsChangeOf made db later
  pub same : made.deletes ≡ [] → later ≡ db
  pub differs : 0 < length made.deletes → later ≡ db → ⊥
