-- The database that a map of files holds, name by name. docs/FILES.md, "Names", "Definitions", "Row files" and "The counter".
use Rattle.std.specs.Prelude.{◌≡◌, ℕ, List, [], Option, Some, None, Ok, IfSome, IsSomeAnd}
use Rattle.std.specs.Option.{option_map, unwrap_or}
use Rattle.pt_value.specs.Ident.{IsIdent}
use Rattle.pt_host.specs.Disk.{Files}
use Rattle.pt_names.specs.Names.{def_name, lowered, row_name, serials_name}
use Rattle.pt_ast.specs.declared.database.Db.{Db}
use Rattle.pt_ast.specs.declared.database.Row.{Row}
use Rattle.pt_ast.specs.declared.database.Spot.{Spot}
use Rattle.pt_ast.specs.declared.database.Table.{Table}
use Rattle.pt_ast.specs.declared.table.TableDef.{TableDef}
use Rattle.pt_place.specs.Place.{leaf_of}
use Rattle.pt_defs.specs.Reading.{def_at}
use Rattle.pt_rowfile.specs.Counter.{counter_of}
use Rattle.pt_rowfile.specs.Rows.{SpellsRows}
use Rattle.pt_db.specs.Lookup.{table_of}
use Rattle.pt_db.specs.Rows.{spot_rows}
use Rattle.pt_db.specs.Sound.{IsSound}
use Rattle.pt_db.specs.Spots.{IsSpotOf}

-- the name of the file of a spot's rows: a partition's, or a subpartition's, or an unpartitioned table's
abbrev pub spot_file : List ℕ → TableDef → Spot → List ℕ
spot_file name def spot = row_name name (leaf_of def spot)

-- some spot of the definition has this leaf, the name of its partition or subpartition, compared without case
abbrev pub HasLeaf : TableDef → Option (List ℕ) → Type 0
HasLeaf def leaf = (spot : Spot) × IsSpotOf def spot × (option_map lowered (leaf_of def spot) ≡ option_map lowered leaf)

-- The file is there, and its records are all proper and leave these rows.
abbrev pub HoldsRows : Files → List ℕ → List Row → Type 0
HoldsRows map file rows = IsSomeAnd (map file) (λ bytes. SpellsRows bytes rows)

-- The files of a table: its definition, for each spot the rows that are placed there, and no other row file.
pub record HoldsTable (map : Files) (name : List ℕ) (table : Table) : Type 0 where
  pub defined : option_map def_at (map (def_name name)) ≡ Some (Ok table.def)
  pub rows : (spot : Spot) → IsSpotOf table.def spot → HoldsRows map (spot_file name table.def spot) (spot_rows table.def spot table.rows)
  pub no_more : (leaf : Option (List ℕ)) → IfSome leaf IsIdent → (HasLeaf table.def leaf → ⊥) → map (row_name name leaf) ≡ None

-- No table of this name has a file.
pub record HoldsNone (map : Files) (name : List ℕ) : Type 0 where
  pub defined : map (def_name name) ≡ None
  pub rows : (leaf : Option (List ℕ)) → IfSome leaf IsIdent → map (row_name name leaf) ≡ None

-- At this name the files are those of the table, or of none.
abbrev pub HoldsAt : Files → List ℕ → Option Table → Type 0
HoldsAt map name None = HoldsNone map name
HoldsAt map name (Some table) = HoldsTable map name table

-- The files hold this database: it is sound, at each name there are the files of its table, and the counter has its next serial; a
-- counter that is missing is an empty one. Files of other names mean nothing.
pub record Holds (map : Files) (db : Db) : Type 0 where
  pub sound : IsSound db
  pub tables : (name : List ℕ) → IsIdent name → HoldsAt map name (table_of db name)
  pub counter : counter_of (unwrap_or (map serials_name) []) ≡ Ok db.next
