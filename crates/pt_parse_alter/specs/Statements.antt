-- The grammar of the statements that change which partitions a table has. `IsStmt ts x rest` says that the symbols ts begin with a
-- spelling of x, and that rest is what comes after it. Each rule has one case for each right side.
--
--     alter   = ALTER TABLE name action
--     action  = ADD PARTITION ( partdef {, partdef} ) | ADD PARTITION PARTITIONS n
--             | DROP PARTITION name {, name} | TRUNCATE PARTITION (ALL | name {, name})
--             | COALESCE PARTITION n
--             | REORGANIZE PARTITION name {, name} INTO ( partdef {, partdef} )
--             | EXCHANGE PARTITION name WITH TABLE name [WITH VALIDATION]
--             | REMOVE PARTITIONING | partby
--
-- After the manual's section 13.1.8, "ALTER TABLE Partition Operations". What stands in parentheses with | directly inside is a choice;
-- all other parentheses are tokens. TRUNCATE, COALESCE, REORGANIZE, EXCHANGE, VALIDATION, REMOVE, PARTITIONING and PARTITIONS are
-- reserved nowhere. Rows are validated also where WITH VALIDATION isn't written, so it has no part in a tree.
use Rattle.std.specs.Prelude.{ℕ, ℤ, List, ◌∷◌, Option, Some, None}
use Rattle.pt_ast.specs.declared.statement.Stmt.{Stmt}
use Rattle.pt_ast.specs.declared.statement.Stmt.TheVariants as stmt
use Rattle.pt_ast.specs.declared.written.PartItem.{PartItem}
use Rattle.pt_ast.specs.declared.written.PartSpec.{PartSpec}
use Rattle.pt_parse_expr.specs.declared.alphabet.Reserved.TheVariants as word
use Rattle.pt_parse_expr.specs.declared.alphabet.Symbol.TheVariants.{Number}
use Rattle.pt_parse_expr.specs.Grammar.{Symbols}
use Rattle.pt_parse_ddl.specs.declared.words.Keyword.{Keyword}
use Rattle.pt_parse_ddl.specs.declared.words.Keyword.TheVariants as keyword
use Rattle.pt_parse_ddl.specs.Words.{the, IsName, IsWord}
use Rattle.pt_parse_ddl.specs.Lists.{IsOptional, AreListed, InTuple}
use Rattle.pt_parse_ddl.specs.Partitioning.{IsCount, IsPart, IsPartBy}

-- a word that isn't reserved, and PARTITION behind it
abbrev pub IsVerb : Keyword → Symbols → Unit {0} → Symbols → Type 0
IsVerb k ts u rest = IsWord k ts u (the word.Partition ∷ rest)

-- name {, name}
abbrev pub AreNames : Symbols → List (List ℕ) → Symbols → Type 0
AreNames = AreListed IsName

-- WITH VALIDATION
pub data IsValidation : Symbols → Unit {0} → Symbols → Type 0 where
  validation : {ts rest : Symbols} → IsWord keyword.Validation ts tt rest → IsValidation (the word.With ∷ ts) tt rest

-- what is done to a table
pub data IsAction (table : List ℕ) : Symbols → Stmt → Symbols → Type 0 where
  add_parts : {ts rest : Symbols} {parts : List PartItem} → InTuple IsPart ts parts rest
      → IsAction table (the word.Add ∷ the word.Partition ∷ ts) (stmt.AddParts table parts) rest
  add_count : {ts rest : Symbols} {n : ℤ} → IsCount keyword.Partitions ts n rest
      → IsAction table (the word.Add ∷ the word.Partition ∷ ts) (stmt.AddCount table n) rest
  drop_parts : {ts rest : Symbols} {names : List (List ℕ)} → AreNames ts names rest
      → IsAction table (the word.Drop ∷ the word.Partition ∷ ts) (stmt.DropParts table names) rest
  truncate_all : {ts rest : Symbols} → IsVerb keyword.Truncate ts tt (the word.All ∷ rest) → IsAction table ts (stmt.Truncate table None) rest
  truncate : {ts us rest : Symbols} {names : List (List ℕ)} → IsVerb keyword.Truncate ts tt us → AreNames us names rest
      → IsAction table ts (stmt.Truncate table (Some names)) rest
  coalesce : {ts rest : Symbols} {n : ℤ} → IsVerb keyword.Coalesce ts tt (Number n ∷ rest) → IsAction table ts (stmt.Coalesce table n) rest
  reorganize : {ts us vs rest : Symbols} {names : List (List ℕ)} {parts : List PartItem} → IsVerb keyword.Reorganize ts tt us
      → AreNames us names (the word.Into ∷ vs) → InTuple IsPart vs parts rest → IsAction table ts (stmt.Reorganize table names parts) rest
  exchange : {ts us vs ws rest : Symbols} {name other : List ℕ} {said : Option (Unit {0})} → IsVerb keyword.Exchange ts tt us
      → IsName us name (the word.With ∷ the word.Table ∷ vs) → IsName vs other ws → IsOptional IsValidation ws said rest
      → IsAction table ts (stmt.Exchange table name other) rest
  remove : {ts us rest : Symbols} → IsWord keyword.Remove ts tt us → IsWord keyword.Partitioning us tt rest
      → IsAction table ts (stmt.RemoveParts table) rest
  partition_by : {ts rest : Symbols} {spec : PartSpec} → IsPartBy ts spec rest → IsAction table ts (stmt.PartitionBy table spec) rest

pub data IsStmt : Symbols → Stmt → Symbols → Type 0 where
  alter : {ts us rest : Symbols} {table : List ℕ} {x : Stmt} → IsName ts table us → IsAction table us x rest
      → IsStmt (the word.Alter ∷ the word.Table ∷ ts) x rest
