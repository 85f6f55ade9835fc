-- What the definitions come to. Each is proved.
use Rattle.std.specs.Prelude.{◌≡◌, ℕ, ◌<◌, ◌≤◌, ◌^◌, List, [], Some, IsSome}
use Rattle.pt_value.specs.Ident.{IsIdent}
use Rattle.pt_value.specs.declared.value.Value.{Value}
use Rattle.pt_ast.specs.declared.database.Db.{Db}
use Rattle.pt_ast.specs.declared.database.Row.{Row}
use Rattle.pt_ast.specs.declared.database.Spot.{Spot}
use Rattle.pt_ast.specs.declared.database.Table.{Table}
use Rattle.pt_ast.specs.declared.table.TableDef.{TableDef}
use Rattle.pt_ast.specs.StorableDef.{IsStorableDef}
use Rattle.pt_place.specs.Place.{place_of}
use Rattle.pt_place.specs.Valid.{IsValid}
use Rattle.pt_db.specs.Lookup.{added_to, empty_db, filled, removed_from, table_of}
use Rattle.pt_db.specs.Rows.{row_at, spot_rows}
use Rattle.pt_db.specs.Sound.{AreSoundRows, IsSound}
use Rattle.pt_db.specs.Spots.{IsSpotOf}

-- the place of a row is one of its table's spots
abbrev pub PlacedInSpot : Type 0
PlacedInSpot = (def : TableDef) (cells : List Value) (spot : Spot) → IsValid def → place_of def cells ≡ Some spot → IsSpotOf def spot

-- the rows of a sound table are determined by those of its spots
abbrev pub OneBySpots : Type 0
OneBySpots =
    (def : TableDef) (next later : ℕ) (a b : List Row) → IsValid def → AreSoundRows next def a → AreSoundRows later def b
    → ((spot : Spot) → IsSpotOf def spot → spot_rows def spot a ≡ spot_rows def spot b) → a ≡ b

-- a sound database is determined by the table of each name and the next serial
abbrev pub OneByNames : Type 0
OneByNames = (a b : Db) → IsSound a → IsSound b → ((name : List ℕ) → IsIdent name → table_of a name ≡ table_of b name) → a.next ≡ b.next → a ≡ b

-- Each change keeps a database sound.
pub record ChangesKeepSound : Type 0 where
  pub empty : IsSound empty_db
  pub added : (db : Db) (name : List ℕ) (def : TableDef) → IsSound db → IsIdent name → IsStorableDef def → IsValid def
      → IsSound (added_to db (record { name = name; def = def; rows = [] }))
  pub removed : (db : Db) (name : List ℕ) → IsSound db → IsSound (removed_from db name)
  -- where rows change, no row takes a serial below the next one that the table's rows didn't have
  pub filled : (db : Db) (name : List ℕ) (table : Table) (rows : List Row) (next : ℕ) → IsSound db → table_of db name ≡ Some table → AreSoundRows next table.def rows
      → db.next ≤ next → next ≤ 2 ^ 62 → ((serial : ℕ) → serial < db.next → IsSome (row_at rows serial) → IsSome (row_at table.rows serial))
      → IsSound (filled db name rows next)
