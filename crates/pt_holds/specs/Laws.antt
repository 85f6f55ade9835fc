-- What the definitions come to. Each is proved.
use Rattle.std.specs.Prelude.{◌≡◌, ◌≢◌, ℕ, List, [], None}
use Rattle.std.specs.Option.{unwrap_or}
use Rattle.pt_host.specs.Disk.{Files}
use Rattle.pt_names.specs.Names.{serials_name}
use Rattle.pt_ast.specs.declared.database.Db.{Db}
use Rattle.pt_ast.specs.declared.database.Row.{Row}
use Rattle.pt_ast.specs.declared.database.Spot.{Spot}
use Rattle.pt_ast.specs.declared.database.Table.{Table}
use Rattle.pt_ast.specs.declared.table.TableDef.{TableDef}
use Rattle.pt_place.specs.Valid.{IsValid}
use Rattle.pt_db.specs.Lookup.{empty_db}
use Rattle.pt_db.specs.Sound.{AreSoundRows}
use Rattle.pt_holds.specs.Holds.{Holds}
use Rattle.pt_holds.specs.ShapeChanges.{IsAltered}

-- Files hold one database at most.
abbrev pub HoldsAtMostOne : Type 0
HoldsAtMostOne = (map : Files) (a b : Db) → Holds map a → Holds map b → a ≡ b

-- Where there is no file, or an empty counter alone, that is the empty database.
abbrev pub EmptyHolds : Type 0
EmptyHolds = (map : Files) → ((file : List ℕ) → file ≢ serials_name → map file ≡ None) → unwrap_or (map serials_name) [] ≡ [] → Holds map empty_db

-- Another definition and the rows that are given for spots determine the rows that a sound table then has: a row that was kept stands
-- in the spot of its leaf, and no row is left over.
abbrev pub OneAlteration : Type 0
OneAlteration =
    (old : Table) (def : TableDef) (fresh : List (Spot × List Row)) (next later : ℕ) (a b : List Row) → IsValid old.def → IsValid def → AreSoundRows next def a → AreSoundRows later def b
    → IsAltered old def fresh a → IsAltered old def fresh b → a ≡ b
