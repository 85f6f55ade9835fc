-- What a table that comes, goes or changes asks of the store.
use Rattle.std.specs.Prelude.{◌≡◌, ℕ, ◌<◌, ◌≤◌, ◌^◌, Bool, cond, not, List, [], ◌∷◌, ◌++◌, filter, length, map, All, Some, Ok, is_some}
use Rattle.std.specs.List.{list_any}
use Rattle.std.specs.Str.{bytes_eq}
use Rattle.indexmap.specs.IndexMap.{index_map_len, spare}
use Rattle.pt_value.specs.Ident.{IsIdent}
use Rattle.pt_host.specs.Listed.{FileList}
use Rattle.pt_host.specs.Name.{shadow_end}
use Rattle.pt_names.specs.Names.{def_name}
use Rattle.pt_ast.specs.declared.database.Row.{Row}
use Rattle.pt_ast.specs.declared.database.Spot.{Spot}
use Rattle.pt_ast.specs.declared.table.TableDef.{TableDef}
use Rattle.pt_defs.specs.Fitting.{FitsDef, FitsPart}
use Rattle.pt_defs.specs.Reading.{def_at}
use Rattle.pt_ddl_log.specs.declared.chain.Act.{Act}
use Rattle.pt_ddl_log.specs.declared.chain.Act.TheVariants.{Delete, Rename, Replace, Exchange}
use Rattle.pt_ddl_log.specs.declared.chain.Chain.{Chain}
use Rattle.pt_store.specs.Entries.{length_in}
use Rattle.pt_store.specs.Store.{sizes}
use Rattle.pt_db.specs.Spots.{spot_at, spots_of}
use Rattle.pt_holds.specs.Acts.{AreRecords, rows_text}
use Rattle.pt_holds.specs.Holds.{spot_file}
use Rattle.pt_session.specs.declared.session.Session.{Session}
use Rattle.pt_session.specs.declared.altering.Alteration.{Alteration}
use Rattle.pt_session.specs.declared.shaping.Coming.{Coming}
use Rattle.pt_session.specs.Session.{def_of}

-- ---- the files of a table

-- the names of those of its rows, spot by spot
abbrev pub row_files : List ℕ → TableDef → List (List ℕ)
row_files name def = map (spot_file name def) (spots_of def)

-- and that of its definition before them
abbrev pub table_files : List ℕ → TableDef → List (List ℕ)
table_files name def = def_name name ∷ row_files name def

-- an empty file of each name
abbrev pub empty_files : List (List ℕ) → FileList
empty_files names = map (λ name. (name, [])) names

-- Those of a table that has no rows: its definition in bytes that are read as it, and an empty file for each spot.
pub record AreFresh (name : List ℕ) (def : TableDef) (fresh : FileList) : Type 0 where
  pub bytes : List ℕ
  pub are : fresh ≡ (def_name name, bytes) ∷ empty_files (row_files name def)
  pub reads : def_at bytes ≡ Ok def

-- ---- acts

-- a file gets its name from its shadow's
abbrev pub comes : List ℕ → Act
comes file = Rename (file ++ shadow_end) file

abbrev pub goes : List ℕ → Act
goes file = Delete file

-- ---- a table comes

-- Each of its files comes, and the map that will be the session's has its definition, and room for those that are there.
pub record IsCreating (session : Session) (name : List ℕ) (def : TableDef) (coming : Coming) : Type 0 where
  pub name_is : IsIdent name
  pub fits : FitsDef def
  pub fresh : AreFresh name def coming.fresh
  pub acts : coming.chain.acts ≡ map (λ file. comes file.0) coming.fresh
  pub entry : coming.tables.entries ≡ (name, def) ∷ []
  pub room : index_map_len session.tables ≤ spare coming.tables

-- ---- a table goes

-- Each of its files goes.
pub record IsDropping (session : Session) (name : List ℕ) (chain : Chain) : Type 0 where
  pub def : TableDef
  pub held : def_of session name ≡ Some def
  pub fits : All FitsPart def.parts
  pub acts : chain.acts ≡ map goes (table_files name def)

-- ---- a table has another definition

-- the file of a spot's rows that are given
abbrev pub given_file : List ℕ → TableDef → Spot × List Row → List ℕ × List ℕ
given_file name def given = (spot_file name def given.0, rows_text given.1)

-- Its files that are made anew: its definition in bytes that are read as it, and the rows that are given.
pub record AreAltered (name : List ℕ) (def : TableDef) (fresh : List (Spot × List Row)) (files : FileList) : Type 0 where
  pub bytes : List ℕ
  pub are : files ≡ (def_name name, bytes) ∷ map (given_file name def) fresh
  pub reads : def_at bytes ≡ Ok def
  pub records : All AreRecords fresh

-- a file gets the bytes of its shadow, in place of those that it has
abbrev pub renews : List (List ℕ × ℕ) → List ℕ → Act
renews sizes file = cond (is_some (length_in sizes file)) (Replace (file ++ shadow_end) file) (Rename (file ++ shadow_end) file)

-- the name is among these
abbrev pub is_listed : List (List ℕ) → List ℕ → Bool
is_listed names file = list_any (λ name. bytes_eq name file) names

-- the row files of the old definition that the other one doesn't have
abbrev pub gone_files : List ℕ → TableDef → TableDef → List (List ℕ)
gone_files name old def = filter (λ file. not (is_listed (row_files name def) file)) (row_files name old)

-- Each file that is made anew gets its bytes, and each row file that only the old definition has goes.
pub record AreAltering (session : Session) (name : List ℕ) (def : TableDef) (files : FileList) (acts : List Act) : Type 0 where
  pub old : TableDef
  pub held : def_of session name ≡ Some old
  pub fits : All FitsPart old.parts
  pub are : acts ≡ map (λ file. renews (sizes session.store) file.0) files ++ map goes (gone_files name old def)
  pub few : length acts < 2 ^ 32

pub record IsAltering (session : Session) (name : List ℕ) (def : TableDef) (fresh : List (Spot × List Row)) (altering : Alteration) : Type 0 where
  pub name_is : IsIdent name
  pub fits : FitsDef def
  pub files : AreAltered name def fresh altering.fresh
  pub acts : AreAltering session name def altering.fresh altering.chain.acts
  pub same : altering.def ≡ def

-- ---- rows change sides

-- The file of the rows of a table's spot.
pub record IsHeldFile (session : Session) (name : List ℕ) (spot : Spot) (file : List ℕ) : Type 0 where
  pub def : TableDef
  pub held : def_of session name ≡ Some def
  pub fits : All FitsPart def.parts
  pub is : file ≡ spot_file name def spot

-- The spot's file and that of the other table, which has the one spot, get each other's names.
pub record IsExchanging (session : Session) (name : List ℕ) (spot : Spot) (other : List ℕ) (chain : Chain) : Type 0 where
  pub name_is : IsIdent name
  pub other_is : IsIdent other
  pub a : List ℕ
  pub b : List ℕ
  pub here : IsHeldFile session name spot a
  pub beside : IsHeldFile session other (spot_at 0 0) b
  pub acts : chain.acts ≡ Exchange a b ∷ []
