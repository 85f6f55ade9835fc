-- The grammar of the statements that define a table and show it. `IsStmt ts x rest` says that the symbols ts begin with a spelling of
-- x, and that rest is what comes after it. Each rule has one case for each right side.
--
--     statement = create | like | drop | show
--     create  = CREATE TABLE [IF NOT EXISTS] name ( item {, item} ) {option} [partby]
--     like    = CREATE TABLE [IF NOT EXISTS] name LIKE name
--     drop    = DROP TABLE [IF EXISTS] name
--     show    = SHOW CREATE TABLE name
--
-- After the manual's sections 13.1.18, "CREATE TABLE Syntax", 13.1.29, "DROP TABLE Syntax", and 13.7.5.10, "SHOW CREATE TABLE
-- Syntax". A name is a word that isn't reserved, or a quoted name.
use Rattle.std.specs.Prelude.{ℕ, List, ◌∷◌, Bool, true, false, Option}
use Rattle.pt_ast.specs.declared.statement.Stmt.{Stmt}
use Rattle.pt_ast.specs.declared.statement.Stmt.TheVariants as stmt
use Rattle.pt_ast.specs.declared.written.Item.{Item}
use Rattle.pt_ast.specs.declared.written.PartSpec.{PartSpec}
use Rattle.pt_ast.specs.declared.written.TableSpec.{TableSpec}
use Rattle.pt_parse_expr.specs.declared.alphabet.Mark.TheVariants.{Not}
use Rattle.pt_parse_expr.specs.declared.alphabet.Reserved.TheVariants as word
use Rattle.pt_parse_expr.specs.declared.alphabet.Symbol.TheVariants.{Fixed}
use Rattle.pt_parse_expr.specs.Grammar.{Symbols}
use Rattle.pt_parse_ddl.specs.Words.{the, IsName}
use Rattle.pt_parse_ddl.specs.Lists.{IsOptional, AreRepeated, InTuple}
use Rattle.pt_parse_ddl.specs.Columns.{IsTableOption}
use Rattle.pt_parse_ddl.specs.Keys.{IsItem}
use Rattle.pt_parse_ddl.specs.Partitioning.{IsPartBy}

-- [IF NOT EXISTS], true where it stands
pub data IsIfNotExists : Symbols → Bool → Symbols → Type 0 where
  anyhow : {ts : Symbols} → IsIfNotExists ts false ts
  if_not_exists : {rest : Symbols} → IsIfNotExists (the word.If ∷ Fixed Not ∷ the word.Exists ∷ rest) true rest

-- [IF EXISTS], true where it stands
pub data IsIfExists : Symbols → Bool → Symbols → Type 0 where
  surely : {ts : Symbols} → IsIfExists ts false ts
  if_exists : {rest : Symbols} → IsIfExists (the word.If ∷ the word.Exists ∷ rest) true rest

-- ( item {, item} ) {option} [partby]
pub data IsTable : Symbols → TableSpec → Symbols → Type 0 where
  table : {ts us vs rest : Symbols} {items : List Item} {skipped : List (Unit {0})} {spec : Option PartSpec} → InTuple IsItem ts items us
      → AreRepeated IsTableOption us skipped vs → IsOptional IsPartBy vs spec rest → IsTable ts (record { items = items; «by» = spec }) rest

pub data IsStmt : Symbols → Stmt → Symbols → Type 0 where
  create : {ts us vs rest : Symbols} {only_new : Bool} {name : List ℕ} {spec : TableSpec} → IsIfNotExists ts only_new us → IsName us name vs
      → IsTable vs spec rest → IsStmt (the word.Create ∷ the word.Table ∷ ts) (stmt.Create only_new name spec) rest
  like : {ts us vs rest : Symbols} {only_new : Bool} {name other : List ℕ} → IsIfNotExists ts only_new us → IsName us name (the word.Like ∷ vs)
      → IsName vs other rest → IsStmt (the word.Create ∷ the word.Table ∷ ts) (stmt.Like only_new name other) rest
  drop : {ts us rest : Symbols} {if_there : Bool} {name : List ℕ} → IsIfExists ts if_there us → IsName us name rest
      → IsStmt (the word.Drop ∷ the word.Table ∷ ts) (stmt.Drop if_there name) rest
  show : {ts rest : Symbols} {name : List ℕ} → IsName ts name rest → IsStmt (the word.Show ∷ the word.Create ∷ the word.Table ∷ ts) (stmt.Show name) rest
