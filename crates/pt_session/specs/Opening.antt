-- What a directory that is opened is asked: the files that its tables need, and the definitions that are read.
use Rattle.std.specs.Prelude.{◌≡◌, ◌⊎◌, ℕ, Bool, true, List, Option, Some, None, Result, Ok, Err, IfSome, IsSome, cond, is_some, nat_eq}
use Rattle.std.specs.BTreeSet.{BTreeSet, contains}
use Rattle.std.specs.Cmp.Lexicographic.{pointwise, slice_cmp}
use Rattle.std.specs.Ordering.{nat_cmp}
use Rattle.std.specs.Str.{bytes_eq}
use Rattle.indexmap.specs.IndexMap.{IndexMap, get}
use Rattle.pt_value.specs.Ident.{IsIdent}
use Rattle.pt_host.specs.Disk.{Files}
use Rattle.pt_host.specs.Listed.{FileList, by_name}
use Rattle.pt_host.specs.World.{World}
use Rattle.pt_names.specs.Names.{IsRowsOf, def_name}
use Rattle.pt_ast.specs.declared.table.TableDef.{TableDef}
use Rattle.pt_ast.specs.StorableDef.{IsStorableDef}
use Rattle.pt_place.specs.Valid.{IsValid}
use Rattle.pt_defs.specs.declared.fault.DefRead.{DefRead}
use Rattle.pt_defs.specs.declared.fault.DefRead.TheVariants.{Bad, NoMemory}
use Rattle.pt_defs.specs.Reading.{def_at}
use Rattle.pt_store.specs.declared.store.Store.{Store}
use Rattle.pt_store.specs.Entries.{length_in}
use Rattle.pt_store.specs.Store.{IsStore}
use Rattle.pt_holds.specs.Bad.{Defines}
use Rattle.pt_holds.specs.Batch.{IsRowFileOf}
use Rattle.pt_session.specs.Session.{IsKept, length_of}

-- the definition of the table of a name
abbrev pub table_in : {S : Type 0} → IndexMap (List ℕ) TableDef S → List ℕ → Option TableDef
table_in tables name = get (pointwise nat_eq) tables name

-- whether a name is among these
abbrev pub has : BTreeSet (List ℕ) → List ℕ → Bool
has names file = contains (slice_cmp nat_cmp) names file

-- ---- row files

-- a name of a row file
abbrev pub IsRowFile : List ℕ → Type 0
IsRowFile file = (table : List ℕ) × (leaf : Option (List ℕ)) × IsRowsOf file table leaf

-- It is a file of the rows of one of the tables.
pub record IsNeeded (tables : List ℕ → Option TableDef) (file : List ℕ) : Type 0 where
  pub table : List ℕ
  pub def : TableDef
  pub held : tables table ≡ Some def
  pub of : IsRowFileOf table def file

-- The store has each of them and no other row file.
pub record HasRowFiles (store : Store) (tables : List ℕ → Option TableDef) : Type 0 where
  pub held : (file : List ℕ) → IsNeeded tables file → IsSome (length_of store file)
  pub no_more : (file : List ℕ) → IsSome (length_of store file) → IsRowFile file → IsNeeded tables file

-- One that the tables need and the store lacks, or one that it has and no table needs.
pub data IsWrongFile (store : Store) (tables : List ℕ → Option TableDef) (file : List ℕ) : Type 0 where
  Missing : IsNeeded tables file → length_of store file ≡ None → IsWrongFile store tables file
  Stray : IsSome (length_of store file) → IsRowFile file → (IsNeeded tables file → ⊥) → IsWrongFile store tables file

-- The names of a table's row files were put among others, and the store has each of them.
pub record AddsFiles (store : Store) (old new : List ℕ → Bool) (table : List ℕ) (def : TableDef) : Type 0 where
  pub keeps : (file : List ℕ) → old file ≡ true → new file ≡ true
  pub adds : (file : List ℕ) → IsRowFileOf table def file → new file ≡ true
  pub only : (file : List ℕ) → new file ≡ true → (old file ≡ true) ⊎ IsRowFileOf table def file
  pub held : (file : List ℕ) → IsRowFileOf table def file → IsSome (length_of store file)

-- ---- definitions

-- The bytes are no definition, from this place on, or one that isn't valid.
pub data IsBadDef (bytes : List ℕ) (place : ℕ) : Type 0 where
  NoDef : def_at bytes ≡ Err place → IsBadDef bytes place
  NotValid : (def : TableDef) → def_at bytes ≡ Ok def → (IsValid def → ⊥) → place ≡ 12 → IsBadDef bytes place

-- A valid definition that the bytes spell, or why there is none.
abbrev pub IsChecked : Result TableDef DefRead → List ℕ → Type 0
IsChecked (Ok def) bytes = (def_at bytes ≡ Ok def) × IsStorableDef def × IsValid def
IsChecked (Err (Bad place)) bytes = IsBadDef bytes place
IsChecked (Err NoMemory) bytes = Unit {0}

-- There is a table for each definition's file among these, and for no other name.
pub record AreDefined (sizes : List (List ℕ × ℕ)) (tables : List ℕ → Option TableDef) : Type 0 where
  pub kept : (name : List ℕ) → IfSome (tables name) (IsKept name)
  pub named : (name : List ℕ) → IsIdent name → is_some (tables name) ≡ is_some (length_in sizes (def_name name))

-- Each of the tables is defined by its file.
abbrev pub AreRead : Files → (List ℕ → Option TableDef) → Type 0
AreRead map tables = (name : List ℕ) → IfSome (tables name) (Defines map name)

-- A table was put among others; where the host tells, it is as its file defines it.
pub record AddsDef (tells : Type 0) (store : Store) (w : World) (old new : List ℕ → Option TableDef) (table : List ℕ) : Type 0 where
  pub def : TableDef
  pub kept : IsKept table def
  pub put : (name : List ℕ) → new name ≡ cond (bytes_eq table name) (Some def) (old name)
  pub read : tells → (map : FileList) → IsStore store map w → Defines (by_name map) table def
