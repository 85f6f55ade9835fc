-- The reading of changes of a table, as functions on lists of symbols. (In the shape of the code.)
use Rattle.std.specs.Prelude.{ℕ, List, ◌∷◌, Some, None}
use Rattle.pt_ast.specs.declared.tree.Expr.{Expr}
use Rattle.pt_ast.specs.declared.statement.Stmt.{Stmt}
use Rattle.pt_ast.specs.declared.statement.Stmt.TheVariants as stmt
use Rattle.pt_parse_expr.specs.declared.alphabet.Mark.TheVariants.{Other}
use Rattle.pt_parse_expr.specs.declared.alphabet.Reserved.TheVariants as word
use Rattle.pt_parse_expr.specs.declared.alphabet.Symbol.TheVariants.{Fixed}
use Rattle.pt_parse_expr.specs.Grammar.{Symbols}
use Rattle.pt_parse_expr.specs.Reader.{Reader, mapped}
use Rattle.pt_parse_ddl.specs.declared.words.Keyword.{Keyword}
use Rattle.pt_parse_ddl.specs.declared.words.Keyword.TheVariants as keyword
use Rattle.pt_parse_ddl.specs.Steps.{and_then, if_read, optional, several, named, numbered, worded}
use Rattle.pt_parse_ddl.specs.PartReader.{count, parts_of, part_by}

-- ---- words

unfoldable pub past_partition : Reader (Unit {0})
past_partition (Fixed (Other word.Partition) ∷ ts) = Some (tt, ts)
past_partition _ = None

-- a word that isn't reserved, and PARTITION behind it
unfoldable pub verb : Keyword → Reader (Unit {0})
verb k ts = and_then (worded k ts) (λ u us. past_partition us)

unfoldable pub past_table : Reader (Unit {0})
past_table (Fixed (Other word.Table) ∷ ts) = Some (tt, ts)
past_table _ = None

-- WITH TABLE
unfoldable pub with_table : Reader (Unit {0})
with_table (Fixed (Other word.With) ∷ ts) = past_table ts
with_table _ = None

-- WITH VALIDATION
unfoldable pub validation : Reader (Unit {0})
validation (Fixed (Other word.With) ∷ ts) = worded keyword.Validation ts
validation _ = None

-- what stands behind [WITH VALIDATION]
abbrev pub past_validation : Symbols → Symbols
past_validation ts = (optional validation ts).1

-- ---- partitions that are named or counted

abbrev pub dropped_names : List ℕ → Reader Stmt
dropped_names table ts = mapped (stmt.DropParts table) (several named ts)

-- behind DROP
unfoldable pub dropped : List ℕ → Reader Stmt
dropped table (Fixed (Other word.Partition) ∷ ts) = dropped_names table ts
dropped table _ = None

abbrev pub truncated_names : List ℕ → Reader Stmt
truncated_names table ts = mapped (λ names. stmt.Truncate table (Some names)) (several named ts)

-- behind TRUNCATE PARTITION
unfoldable pub truncated : List ℕ → Reader Stmt
truncated table (Fixed (Other word.All) ∷ ts) = Some (stmt.Truncate table None, ts)
truncated table ts = truncated_names table ts

-- behind COALESCE PARTITION
abbrev pub coalesced : List ℕ → Reader Stmt
coalesced table ts = mapped (stmt.Coalesce table) (numbered ts)

abbrev pub exchanged_for : List ℕ → List ℕ → Reader Stmt
exchanged_for table name ts = and_then (named ts) (λ other us. Some (stmt.Exchange table name other, past_validation us))

-- behind EXCHANGE PARTITION
unfoldable pub exchanged : List ℕ → Reader Stmt
exchanged table ts = and_then (named ts) (λ name us. and_then (with_table us) (λ u vs. exchanged_for table name vs))

-- behind REMOVE
abbrev pub removed : List ℕ → Reader Stmt
removed table ts = mapped (λ u. stmt.RemoveParts table) (worded keyword.Partitioning ts)

-- ---- partitions that are defined, over the reader of expressions

module _ (expr : Reader Expr) where
  abbrev pub added_parts : List ℕ → Reader Stmt
  added_parts table ts = mapped (stmt.AddParts table) (parts_of expr ts)

  -- behind ADD PARTITION
  abbrev pub added_some : List ℕ → Reader Stmt
  added_some table ts = if_read (count ts) (λ n us. Some (stmt.AddCount table n, us)) (added_parts table ts)

  -- behind ADD
  unfoldable pub added : List ℕ → Reader Stmt
  added table (Fixed (Other word.Partition) ∷ ts) = added_some table ts
  added table _ = None

  -- behind the names of REORGANIZE
  unfoldable pub reorganized_into : List ℕ → List (List ℕ) → Reader Stmt
  reorganized_into table names (Fixed (Other word.Into) ∷ ts) = mapped (stmt.Reorganize table names) (parts_of expr ts)
  reorganized_into table names _ = None

  -- behind REORGANIZE PARTITION
  unfoldable pub reorganized : List ℕ → Reader Stmt
  reorganized table ts = and_then (several named ts) (reorganized_into table)

  abbrev pub partitioned : List ℕ → Reader Stmt
  partitioned table ts = mapped (stmt.PartitionBy table) (part_by expr ts)

  -- ---- the whole

  -- an action that begins with a word that isn't reserved, or with PARTITION
  unfoldable pub by_word : List ℕ → Reader Stmt
  by_word table ts =
      if_read (verb keyword.Truncate ts) (λ u us. truncated table us)
      (if_read (verb keyword.Coalesce ts) (λ u us. coalesced table us)
      (if_read (verb keyword.Reorganize ts) (λ u us. reorganized table us)
      (if_read (verb keyword.Exchange ts) (λ u us. exchanged table us)
      (if_read (worded keyword.Remove ts) (λ u us. removed table us)
      (partitioned table ts)))))

  unfoldable pub action : List ℕ → Reader Stmt
  action table (Fixed (Other word.Add) ∷ ts) = added table ts
  action table (Fixed (Other word.Drop) ∷ ts) = dropped table ts
  action table ts = by_word table ts

  -- behind ALTER
  unfoldable pub altered : Reader Stmt
  altered (Fixed (Other word.Table) ∷ ts) = and_then (named ts) action
  altered _ = None

  unfoldable pub statement : Reader Stmt
  statement (Fixed (Other word.Alter) ∷ ts) = altered ts
  statement _ = None
