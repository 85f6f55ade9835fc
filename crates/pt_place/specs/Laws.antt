-- What the definitions come to. Each is proved.
use Rattle.std.specs.Prelude.{◌≡◌, Bool, true, List, filter}
use Rattle.pt_value.specs.declared.value.Value.{Value}
use Rattle.pt_ast.specs.declared.database.Row.{Row}
use Rattle.pt_ast.specs.declared.table.TableDef.{TableDef}
use Rattle.pt_ast.specs.Keys.{agrees, is_taken}
use Rattle.pt_ast.specs.StorableDef.{IsStorableDef}
use Rattle.pt_place.specs.Place.{place_of}
use Rattle.pt_place.specs.Valid.{ArePlaced, IsValid}

-- each column number of a storable definition is below the number of columns
abbrev pub StorableIsPlaced : Type 0
StorableIsPlaced = (def : TableDef) → IsStorableDef def → ArePlaced def

-- Rows that agree on a unique key have the same place: each unique key of a valid definition has every column that the partitioning and
-- the subpartitioning use. MySQL 5.7 manual, section 22.6.1, "Partitioning Keys, Primary Keys, and Unique Keys".
abbrev pub OneSpot : Type 0
OneSpot = (def : TableDef) (a b : List Value) → IsValid def → agrees def a b ≡ true → place_of def a ≡ place_of def b

-- So whether a row agrees with these cells is decided by any part of the rows that has all those of the cells' place.
abbrev pub TakenInSpot : Type 0
TakenInSpot =
    (def : TableDef) (cells : List Value) (keep : Row → Bool) (rows : List Row) → IsValid def
    → ((row : Row) → place_of def row.cells ≡ place_of def cells → keep row ≡ true) → is_taken def cells (filter keep rows) ≡ is_taken def cells rows
