-- The names of the files of tables, and whose file a name is. docs/FILES.md, "Names".
use Rattle.std.specs.Prelude.{◌≡◌, ℕ, List, ◌++◌, map, Option, Some, None, IfSome, codes}
use Rattle.std.specs.Char.{to_ascii_lowercase}
use Rattle.pt_value.specs.Ident.{IsIdent}
use Rattle.pt_names.specs.declared.owner.Owner.{Owner}
use Rattle.pt_names.specs.declared.owner.Owner.TheVariants.{Def, Row, Journal, Log, Serials, Other}

-- the letters in lower case
abbrev pub lowered : List ℕ → List ℕ
lowered name = map to_ascii_lowercase name

-- `t.def`
abbrev pub def_name : List ℕ → List ℕ
def_name table = table ++ codes ".def"

-- a table, or a partition of it behind a '#'
abbrev pub spot_name : List ℕ → Option (List ℕ) → List ℕ
spot_name table None = table
spot_name table (Some leaf) = table ++ codes "#" ++ lowered leaf

-- `t.rows` and `t#leaf.rows`
abbrev pub row_name : List ℕ → Option (List ℕ) → List ℕ
row_name table leaf = spot_name table leaf ++ codes ".rows"

-- a partition as file names have it: in lower case
pub record IsLeaf (leaf : List ℕ) : Type 0 where
  pub ident : IsIdent leaf
  pub low : lowered leaf ≡ leaf

-- these bytes name this table, and this partition if any
pub record IsSpot (bytes owner : List ℕ) (part : Option (List ℕ)) : Type 0 where
  pub table : IsIdent owner
  pub leaf : IfSome part IsLeaf
  pub name : bytes ≡ spot_name owner part

-- the file of this table's definition
pub record IsDefOf (file owner : List ℕ) : Type 0 where
  pub table : IsIdent owner
  pub name : file ≡ def_name owner

-- the file of the rows of this table, or of this partition of it
pub record IsRowsOf (file owner : List ℕ) (part : Option (List ℕ)) : Type 0 where
  pub table : IsIdent owner
  pub leaf : IfSome part IsLeaf
  pub name : file ≡ row_name owner part

-- the three files of a database that are no table's
abbrev pub journal_name : List ℕ
journal_name = codes "row_journal.log"

abbrev pub log_name : List ℕ
log_name = codes "ddl_log.log"

abbrev pub serials_name : List ℕ
serials_name = codes "serials.cnt"

-- nobody's
pub record IsOther (name : List ℕ) : Type 0 where
  pub no_def : (table : List ℕ) → IsDefOf name table → ⊥
  pub no_rows : (table : List ℕ) (leaf : Option (List ℕ)) → IsRowsOf name table leaf → ⊥
  pub no_journal : name ≡ journal_name → ⊥
  pub no_log : name ≡ log_name → ⊥
  pub no_serials : name ≡ serials_name → ⊥

-- whose file a name is
abbrev pub IsOwner : List ℕ → Owner → Type 0
IsOwner name (Def table) = IsDefOf name table
IsOwner name (Row table leaf) = IsRowsOf name table leaf
IsOwner name Journal = name ≡ journal_name
IsOwner name Log = name ≡ log_name
IsOwner name Serials = name ≡ serials_name
IsOwner name Other = IsOther name
