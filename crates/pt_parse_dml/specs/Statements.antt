-- The grammar of the statements on rows. `IsStmt ts x rest` says that the symbols ts begin with a spelling of x, and that rest is what
-- comes after it. Each rule has one case for each right side.
--
--     statement = insert | replace | update | delete | select | explain
--     insert  = INSERT [IGNORE] [INTO] name [PARTITION cols] [cols] VALUES row {, row}
--     replace = REPLACE [INTO] name [PARTITION cols] [cols] VALUES row {, row}
--     update  = UPDATE name [PARTITION cols] SET name = value {, name = value} tail
--     delete  = DELETE FROM name [PARTITION cols] tail
--     select  = SELECT (* | expr {, expr}) FROM name [PARTITION cols] tail
--     explain = EXPLAIN [PARTITIONS] select
--
-- After the manual's sections 13.2.2, "DELETE Syntax", 13.2.5, "INSERT Syntax", 13.2.8, "REPLACE Syntax", 13.2.9, "SELECT Syntax", 13.2.11,
-- "UPDATE Syntax", 13.8.2, "EXPLAIN Syntax", and 22.5, "Partition Selection". What stands behind INSERT [IGNORE] and behind REPLACE, what
-- stands behind DELETE and behind the items of a query, and what UPDATE assigns are rules of their own (`AreNewRows`, `IsSource`,
-- `AreAssigns`). PARTITIONS is reserved nowhere.
use Rattle.std.specs.Prelude.{◌≡◌, ℕ, List, ◌∷◌, Bool, true, false, Option, Some, None, codes}
use Rattle.std.specs.Str.{str_eq_ignore_ascii_case}
use Rattle.pt_ast.specs.declared.tree.Expr.{Expr}
use Rattle.pt_ast.specs.declared.statement.NewRows.{NewRows}
use Rattle.pt_ast.specs.declared.statement.Query.{Query}
use Rattle.pt_ast.specs.declared.statement.Stmt.{Stmt}
use Rattle.pt_ast.specs.declared.statement.Stmt.TheVariants as stmt
use Rattle.pt_ast.specs.declared.statement.Tail.{Tail}
use Rattle.pt_ast.specs.declared.statement.ValueSpec.{ValueSpec}
use Rattle.pt_parse_expr.specs.declared.alphabet.Mark.TheVariants.{Star}
use Rattle.pt_parse_expr.specs.declared.alphabet.Reserved.TheVariants as word
use Rattle.pt_parse_expr.specs.declared.alphabet.Symbol.TheVariants.{Fixed, Word}
use Rattle.pt_parse_expr.specs.Grammar.{Symbols, IsExpr}
use Rattle.pt_parse_ddl.specs.Words.{the}
use Rattle.pt_parse_ddl.specs.Lists.{AreListed}
use Rattle.pt_parse_dml.specs.declared.targets.Target.{Target}
use Rattle.pt_parse_dml.specs.declared.tails.Source.{Source}
use Rattle.pt_parse_dml.specs.Rows.{IsTarget, AreNewRows, AreAssigns}
use Rattle.pt_parse_dml.specs.Tails.{IsTail, IsSource}

-- [IGNORE], true where it stands
pub data IsIgnore : Symbols → Bool → Symbols → Type 0 where
  strictly : {ts : Symbols} → IsIgnore ts false ts
  ignore : {rest : Symbols} → IsIgnore (the word.Ignore ∷ rest) true rest

-- a name is PARTITIONS, in any case of its letters
abbrev pub is_partitions : List ℕ → Bool
is_partitions name = str_eq_ignore_ascii_case name (codes "PARTITIONS")

-- [PARTITIONS], not quoted
pub data IsPartitionsWord : Symbols → Unit {0} → Symbols → Type 0 where
  unsaid : {ts : Symbols} → IsPartitionsWord ts tt ts
  said : {rest : Symbols} {name : List ℕ} → is_partitions name ≡ true → IsPartitionsWord (Word name ∷ rest) tt rest

-- * | expr {, expr}
pub data AreItems : Symbols → Option (List Expr) → Symbols → Type 0 where
  all : {rest : Symbols} → AreItems (Fixed Star ∷ rest) None rest
  some : {ts rest : Symbols} {xs : List Expr} → AreListed IsExpr ts xs rest → AreItems ts (Some xs) rest

pub data IsQuery : Symbols → Query → Symbols → Type 0 where
  query : {ts us rest : Symbols} {xs : Option (List Expr)} {from : Source} → AreItems ts xs us → IsSource us from rest
      → IsQuery (the word.Select ∷ ts) (record { items = xs; table = from.target.table; parts = from.target.parts; tail = from.tail }) rest

pub data IsStmt : Symbols → Stmt → Symbols → Type 0 where
  insert : {ts us rest : Symbols} {ignoring : Bool} {new : NewRows} → IsIgnore ts ignoring us → AreNewRows us new rest
      → IsStmt (the word.Insert ∷ ts) (stmt.Insert ignoring new) rest
  replace : {ts rest : Symbols} {new : NewRows} → AreNewRows ts new rest → IsStmt (the word.Replace ∷ ts) (stmt.Replace new) rest
  update : {ts us vs rest : Symbols} {on : Target} {xs : List (List ℕ × ValueSpec)} {t : Tail} → IsTarget ts on us → AreAssigns us xs vs → IsTail vs t rest
      → IsStmt (the word.Update ∷ ts) (stmt.Update on.table on.parts xs t) rest
  delete : {ts rest : Symbols} {from : Source} → IsSource ts from rest
      → IsStmt (the word.Delete ∷ ts) (stmt.Delete from.target.table from.target.parts from.tail) rest
  select : {ts rest : Symbols} {q : Query} → IsQuery ts q rest → IsStmt ts (stmt.Select q) rest
  explain : {ts us rest : Symbols} {q : Query} → IsPartitionsWord ts tt us → IsQuery us q rest → IsStmt (the word.Explain ∷ ts) (stmt.Explain q) rest
