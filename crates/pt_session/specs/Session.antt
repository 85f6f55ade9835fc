-- What a session is, and what it stands for.
use Rattle.std.specs.Prelude.{◌≡◌, ◌⊎◌, ℕ, ◌<◌, ◌≤◌, ◌^◌, Bool, List, Option, Some, None, IfSome, IsSome, IsTrue, Result, Ok, All, nat_eq, false}
use Rattle.std.specs.Option.{option_map}
use Rattle.std.specs.Cmp.Lexicographic.{pointwise, slice_cmp}
use Rattle.std.specs.List.Sorted.{IsStrictlySortedBy}
use Rattle.std.specs.Ordering.{nat_cmp}
use Rattle.indexmap.specs.IndexMap.{get}
use Rattle.pt_value.specs.Ident.{IsIdent}
use Rattle.pt_host.specs.Disk.{Files}
use Rattle.pt_host.specs.Listed.{FileList, by_name}
use Rattle.pt_host.specs.World.{World}
use Rattle.pt_names.specs.Names.{def_name, row_name, serials_name}
use Rattle.pt_ast.specs.declared.database.Db.{Db}
use Rattle.pt_ast.specs.declared.database.Row.{Row}
use Rattle.pt_ast.specs.declared.database.Spot.{Spot}
use Rattle.pt_ast.specs.declared.table.TableDef.{TableDef}
use Rattle.pt_ast.specs.StorableDef.{IsStorableDef}
use Rattle.pt_place.specs.Valid.{IsValid}
use Rattle.pt_defs.specs.Reading.{def_at}
use Rattle.pt_store.specs.declared.store.Store.{Store}
use Rattle.pt_store.specs.declared.stop.Stop.{Stop}
use Rattle.pt_store.specs.Entries.{length_in}
use Rattle.pt_store.specs.Stops.{ByStop}
use Rattle.pt_store.specs.Store as store
use Rattle.pt_store.specs.Store.{IsStore, sizes}
use Rattle.pt_db.specs.Lookup.{table_of}
use Rattle.pt_db.specs.Rows.{AreRising}
use Rattle.pt_db.specs.Spots.{IsSpotOf}
use Rattle.pt_holds.specs.Bad.{HasNext}
use Rattle.pt_holds.specs.Fit.{FitsSpot}
use Rattle.pt_holds.specs.Holds.{HasLeaf, Holds, spot_file}
use Rattle.pt_session.specs.declared.session.Session.{Session}

-- it has not failed
abbrev pub is_live : Session → Bool
is_live session = store.is_live session.store

-- the definitions with the names of their tables, in their order
abbrev pub tables_of : Session → List (List ℕ × TableDef)
tables_of session = session.tables.entries

-- names rise in byte order, each once
abbrev pub AreRisingNames : List (List ℕ) → Type 0
AreRisingNames names = IsStrictlySortedBy (slice_cmp nat_cmp) names

-- the definition of the table of a name
abbrev pub def_of : Session → List ℕ → Option TableDef
def_of session name = get (pointwise nat_eq) session.tables name

-- ---- over every host

-- the length of a file of the store, if it has it
abbrev pub length_of : Store → List ℕ → Option ℕ
length_of kept file = length_in (sizes kept) file

-- The store has the files of a table of this name and definition: its definition's, that of each spot, and no other row file.
pub record HasFiles (kept : Store) (name : List ℕ) (def : TableDef) : Type 0 where
  pub defined : IsSome (length_of kept (def_name name))
  pub rows : (spot : Spot) → IsSpotOf def spot → IsSome (length_of kept (spot_file name def spot))
  pub no_more : (leaf : Option (List ℕ)) → IfSome leaf IsIdent → (HasLeaf def leaf → ⊥) → length_of kept (row_name name leaf) ≡ None

-- It has no file of a table of this name.
pub record HasNoFiles (kept : Store) (name : List ℕ) : Type 0 where
  pub defined : length_of kept (def_name name) ≡ None
  pub rows : (leaf : Option (List ℕ)) → IfSome leaf IsIdent → length_of kept (row_name name leaf) ≡ None

-- At this name it has the files of a table with this definition, or of none.
abbrev pub HasFilesAt : Store → List ℕ → Option TableDef → Type 0
HasFilesAt kept name None = HasNoFiles kept name
HasFilesAt kept name (Some def) = HasFiles kept name def

-- a name and a definition that a table of a session may have
pub record IsKept (name : List ℕ) (def : TableDef) : Type 0 where
  pub name_is : IsIdent name
  pub storable : IsStorableDef def
  pub valid : IsValid def

-- What holds of a session that hasn't failed, over every host: it is live, its definitions are storable and valid, its store has
-- the files of its tables and no others, and the next serial is from 1 to 2^62.
pub record IsOpen (session : Session) : Type 0 where
  pub live : IsTrue (is_live session)
  pub defs : (name : List ℕ) → IfSome (def_of session name) (IsKept name)
  pub files : (name : List ℕ) → IsIdent name → HasFilesAt session.store name (def_of session name)
  pub counter : IsSome (length_of session.store serials_name)
  pub some : 0 < session.next
  pub most : session.next ≤ 2 ^ 62

-- What a call that changes the session leaves of it: it is open after Ok, as it was where the call stopped, and failed after a fault.
abbrev pub IsOpenAfter : {T : Type 0} → Session → Session → Result T Stop → Type 0
IsOpenAfter old new result = ByStop result (IsOpen new) (new ≡ old) (is_live new ≡ false)

-- What a statement leaves of a session: it is open after Ok, and as it was where the statement stopped. After a fault it is as it was,
-- where a file couldn't be read, or it has failed.
abbrev pub IsLeftAfter : {T : Type 0} → Session → Session → Result T Stop → Type 0
IsLeftAfter old new result = ByStop result (IsOpen new) (new ≡ old) ((new ≡ old) ⊎ (is_live new ≡ false))

-- Rows of a spot, over every host: they fit the columns, are placed there, and their serials rise from 1 to below the next one.
pub record AreSpotRows (next : ℕ) (def : TableDef) (spot : Spot) (rows : List Row) : Type 0 where
  pub each : All (FitsSpot next def spot) rows
  pub least : All (λ row. 0 < row.serial) rows
  pub rising : AreRising rows

-- ---- where its store stands for a map, whether or not that holds a database

-- Over these files the session has the definitions that they spell, and the next serial of their counter.
pub record IsOver (session : Session) (files : Files) : Type 0 where
  pub defs : (name : List ℕ) → IsIdent name → option_map def_at (files (def_name name)) ≡ option_map Ok (def_of session name)
  pub next : HasNext files session.next

-- What a call leaves whose success puts `next` in the place of `map`: it is so over the one or the other, unless the disk failed.
abbrev pub IsOverAfter : {T : Type 0} → Session → FileList → FileList → Result T Stop → Type 0
IsOverAfter after map next result = ByStop result (IsOver after (by_name next)) (IsOver after (by_name map)) (Unit {0})

-- ---- where a database is held

-- The definitions and the next serial are the database's.
pub record HasDefs (session : Session) (db : Db) : Type 0 where
  pub defs : (name : List ℕ) → IsIdent name → def_of session name ≡ option_map (λ table. table.def) (table_of db name)
  pub next : session.next ≡ db.next

-- Over this map the session is that of this database.
pub record StandsIn (session : Session) (map : FileList) (db : Db) : Type 0 where
  pub defs : HasDefs session db
  pub holds : Holds (by_name map) db

-- Its store stands for some map over this host.
abbrev pub HasMap : Session → World → Type 0
HasMap session w = (map : FileList) × IsStore session.store map w

-- The session stands for the database over this host: each image holds it.
pub record IsSession (session : Session) (db : Db) (w : World) : Type 0 where
  pub map : FileList
  pub store : IsStore session.store map w
  pub is : StandsIn session map db
