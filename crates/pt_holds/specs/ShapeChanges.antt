-- What a change of definitions asks, and which database it makes of another.
use Rattle.std.specs.Prelude.{◌≡◌, ◌≢◌, ℕ, true, false, List, [], Option, Some, None, IsSome, All, AllPairs}
use Rattle.std.specs.List.{find}
use Rattle.std.specs.Option.{option_map}
use Rattle.pt_ast.specs.declared.database.Db.{Db}
use Rattle.pt_ast.specs.declared.database.Row.{Row}
use Rattle.pt_ast.specs.declared.database.Spot.{Spot}
use Rattle.pt_ast.specs.declared.database.Table.{Table}
use Rattle.pt_ast.specs.declared.table.PartBy.TheVariants as by
use Rattle.pt_ast.specs.declared.table.TableDef.{TableDef}
use Rattle.pt_names.specs.Names.{lowered}
use Rattle.pt_place.specs.Place.{leaf_of}
use Rattle.pt_place.specs.Valid.{IsValid}
use Rattle.pt_ast.specs.StorableDef.{IsStorableDef}
use Rattle.pt_rowfile.specs.Rows.{is_serial}
use Rattle.pt_db.specs.Lookup.{added_to, removed_from, table_of, with_both, with_rows}
use Rattle.pt_db.specs.Rows.{is_spot, spot_rows}
use Rattle.pt_db.specs.Sound.{IsSound}
use Rattle.pt_db.specs.Spots.{IsSpotOf}
use Rattle.pt_holds.specs.Fit.{FitsColumns}
use Rattle.pt_holds.specs.declared.change.ShapeChange.{ShapeChange}
use Rattle.pt_holds.specs.declared.change.ShapeChange.TheVariants as change

-- the rows that are given for a spot
abbrev pub fresh_at : List (Spot × List Row) → Spot → Option (List Row)
fresh_at fresh spot = option_map (λ given. given.1) (find (λ given. is_spot given.0 spot) fresh)

-- The two spots, each of its definition, have one leaf name, compared without case.
abbrev pub HaveOneLeaf : TableDef → Spot → TableDef → Spot → Type 0
HaveOneLeaf old before def spot = option_map lowered (leaf_of old before) ≡ option_map lowered (leaf_of def spot)

-- ---- over every host: what a caller can show, where the definitions are these by name

pub record IsCreate (defs : List ℕ → Option TableDef) (name : List ℕ) (def : TableDef) : Type 0 where
  pub free : defs name ≡ None
  pub storable : IsStorableDef def
  pub valid : IsValid def

-- Rows that are given for a spot fit their columns and have serials.
pub record AreFresh (def : TableDef) (given : Spot × List Row) : Type 0 where
  pub spot : IsSpotOf def given.0
  pub fit : All (FitsColumns def) given.1
  pub serials : All (λ row. is_serial row.serial ≡ true) given.1

-- The rows of each spot are given once, or its leaf has a file.
pub record IsAlter (defs : List ℕ → Option TableDef) (name : List ℕ) (def : TableDef) (fresh : List (Spot × List Row)) : Type 0 where
  pub old : TableDef
  pub held : defs name ≡ Some old
  pub storable : IsStorableDef def
  pub valid : IsValid def
  pub given : All (AreFresh def) fresh
  pub once : AllPairs (λ (a b : Spot × List Row). is_spot a.0 b.0 ≡ false) fresh
  pub others : (spot : Spot) → IsSpotOf def spot → fresh_at fresh spot ≡ None → (before : Spot) × IsSpotOf old before × HaveOneLeaf old before def spot

-- The other table is another one, and unpartitioned.
pub record IsExchange (defs : List ℕ → Option TableDef) (name : List ℕ) (spot : Spot) (other : List ℕ) : Type 0 where
  pub def : TableDef
  pub held : defs name ≡ Some def
  pub of : IsSpotOf def spot
  pub beside : TableDef
  pub other_held : defs other ≡ Some beside
  pub whole : beside.by ≡ by.Whole
  pub apart : name ≢ other

abbrev pub IsShapeChange : (List ℕ → Option TableDef) → ShapeChange → Type 0
IsShapeChange defs (change.Create name def) = IsCreate defs name def
IsShapeChange defs (change.Drop name) = IsSome (defs name)
IsShapeChange defs (change.Alter name def fresh) = IsAlter defs name def fresh
IsShapeChange defs (change.Exchange name spot other) = IsExchange defs name spot other

-- ---- where a database is held: the later one, which is sound

-- A table comes that has no rows.
pub record IsCreateOf (name : List ℕ) (def : TableDef) (db later : Db) : Type 0 where
  pub free : table_of db name ≡ None
  pub is : later ≡ added_to db (record { name = name; def = def; rows = [] })
  pub sound : IsSound later

-- The table goes.
pub record IsDropOf (name : List ℕ) (db later : Db) : Type 0 where
  pub table : Table
  pub held : table_of db name ≡ Some table
  pub is : later ≡ removed_from db name
  pub sound : IsSound later

-- A spot whose rows aren't given has those that stood under its leaf name.
pub record KeepsRows (old : Table) (def : TableDef) (spot : Spot) (rows : List Row) : Type 0 where
  pub before : Spot
  pub of : IsSpotOf old.def before
  pub leaf : HaveOneLeaf old.def before def spot
  pub same : rows ≡ spot_rows old.def before old.rows

abbrev pub AreRowsAfter : Table → TableDef → Spot → Option (List Row) → List Row → Type 0
AreRowsAfter old def spot (Some given) rows = rows ≡ given
AreRowsAfter old def spot None rows = KeepsRows old def spot rows

-- A table with another definition has these rows: in each of its spots the given ones, or those that stood under its leaf name.
abbrev pub IsAltered : Table → TableDef → List (Spot × List Row) → List Row → Type 0
IsAltered old def fresh rows = (spot : Spot) → IsSpotOf def spot → AreRowsAfter old def spot (fresh_at fresh spot) (spot_rows def spot rows)

pub record IsAlterOf (name : List ℕ) (def : TableDef) (fresh : List (Spot × List Row)) (db later : Db) : Type 0 where
  pub table : Table
  pub held : table_of db name ≡ Some table
  pub rows : List Row
  pub altered : IsAltered table def fresh rows
  pub is : later ≡ record { tables = with_both name def rows db.tables; next = db.next }
  pub sound : IsSound later

-- The rows of the spot and all rows of the other table change sides; the rows of the other spots stay.
pub record IsExchangeOf (name : List ℕ) (spot : Spot) (other : List ℕ) (db later : Db) : Type 0 where
  pub table : Table
  pub held : table_of db name ≡ Some table
  pub beside : Table
  pub other_held : table_of db other ≡ Some beside
  pub apart : name ≢ other
  pub rows : List Row
  pub come : spot_rows table.def spot rows ≡ beside.rows
  pub stay : (query : Spot) → IsSpotOf table.def query → is_spot spot query ≡ false → spot_rows table.def query rows ≡ spot_rows table.def query table.rows
  pub is : later ≡ record { tables = with_rows other (spot_rows table.def spot table.rows) (with_rows name rows db.tables); next = db.next }
  pub sound : IsSound later

-- The change makes this database of that one.
abbrev pub IsShapeOf : ShapeChange → Db → Db → Type 0
IsShapeOf (change.Create name def) db later = IsCreateOf name def db later
IsShapeOf (change.Drop name) db later = IsDropOf name db later
IsShapeOf (change.Alter name def fresh) db later = IsAlterOf name def fresh db later
IsShapeOf (change.Exchange name spot other) db later = IsExchangeOf name spot other db later
