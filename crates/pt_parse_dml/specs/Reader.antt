-- The reading of statements, as functions on lists of symbols. (In the shape of the code.)
use Rattle.std.specs.Prelude.{ℕ, if◌then◌else◌, List, ◌∷◌, Bool, true, false, Option, Some, None}
use Rattle.pt_ast.specs.declared.tree.Expr.{Expr}
use Rattle.pt_ast.specs.declared.tree.Cond.{Cond}
use Rattle.pt_ast.specs.declared.statement.Query.{Query}
use Rattle.pt_ast.specs.declared.statement.Stmt.{Stmt}
use Rattle.pt_ast.specs.declared.statement.Stmt.TheVariants as stmt
use Rattle.pt_ast.specs.declared.statement.Tail.{Tail}
use Rattle.pt_ast.specs.declared.statement.ValueSpec.{ValueSpec}
use Rattle.pt_parse_expr.specs.declared.alphabet.Mark.TheVariants.{Star, Other}
use Rattle.pt_parse_expr.specs.declared.alphabet.Reserved.TheVariants as word
use Rattle.pt_parse_expr.specs.declared.alphabet.Symbol.TheVariants.{Fixed, Word}
use Rattle.pt_parse_expr.specs.Grammar.{Symbols}
use Rattle.pt_parse_expr.specs.Reader.{Reading, Reader, mapped}
use Rattle.pt_parse_ddl.specs.Steps.{and_then, several}
use Rattle.pt_parse_dml.specs.declared.tails.Source.{Source}
use Rattle.pt_parse_dml.specs.declared.targets.Target.{Target}
use Rattle.pt_parse_dml.specs.Statements.{is_partitions}
use Rattle.pt_parse_dml.specs.RowReader.{target, new_rows, assigns}
use Rattle.pt_parse_dml.specs.TailReader.{tail_of, source}

abbrev pub selected : Option (List Expr) → Source → Query
selected xs from = record { items = xs; table = from.target.table; parts = from.target.parts; tail = from.tail }

abbrev pub deleted : Source → Stmt
deleted from = stmt.Delete from.target.table from.target.parts from.tail

abbrev pub updated : Target → List (List ℕ × ValueSpec) → Tail × Symbols → Reading Stmt
updated on xs p = Some (stmt.Update on.table on.parts xs p.0, p.1)

-- true for IGNORE, and what stands behind [IGNORE]
unfoldable pub ignoring : Symbols → Bool × Symbols
ignoring (Fixed (Other word.Ignore) ∷ ts) = (true, ts)
ignoring ts = (false, ts)

-- what stands behind [PARTITIONS]
unfoldable pub past_partitions : Symbols → Symbols
past_partitions (Word name ∷ ts) = if is_partitions name then ts else Word name ∷ ts
past_partitions ts = ts

-- over the readers of expressions and conditions
module _ (expr : Reader Expr) (cond : Reader Cond) where
  -- ---- queries

  abbrev pub some_items : Reader (Option (List Expr))
  some_items ts = mapped (λ xs. Some xs) (several expr ts)

  unfoldable pub items : Reader (Option (List Expr))
  items (Fixed Star ∷ ts) = Some (None, ts)
  items ts = some_items ts

  abbrev pub with_items : Option (List Expr) → Symbols → Reading Query
  with_items xs ts = mapped (selected xs) (source cond ts)

  -- what stands behind SELECT
  unfoldable pub query : Reader Query
  query ts = and_then (items ts) with_items

  -- a query with its SELECT
  unfoldable pub whole_query : Reader Query
  whole_query (Fixed (Other word.Select) ∷ ts) = query ts
  whole_query _ = None

  -- ---- UPDATE

  abbrev pub with_assigns : Target → List (List ℕ × ValueSpec) → Symbols → Reading Stmt
  with_assigns on xs ts = updated on xs (tail_of cond ts)

  abbrev pub with_target : Target → Symbols → Reading Stmt
  with_target on ts = and_then (assigns expr ts) (with_assigns on)

  -- ---- statements, behind their first words

  abbrev pub insert : Bool × Symbols → Reading Stmt
  insert p = mapped (stmt.Insert p.0) (new_rows expr p.1)

  abbrev pub replace : Reader Stmt
  replace ts = mapped stmt.Replace (new_rows expr ts)

  unfoldable pub update : Reader Stmt
  update ts = and_then (target ts) with_target

  abbrev pub delete : Reader Stmt
  delete ts = mapped deleted (source cond ts)

  abbrev pub select : Reader Stmt
  select ts = mapped stmt.Select (query ts)

  abbrev pub explain : Reader Stmt
  explain ts = mapped stmt.Explain (whole_query (past_partitions ts))

  unfoldable pub statement : Reader Stmt
  statement (Fixed (Other word.Insert) ∷ ts) = insert (ignoring ts)
  statement (Fixed (Other word.Replace) ∷ ts) = replace ts
  statement (Fixed (Other word.Update) ∷ ts) = update ts
  statement (Fixed (Other word.Delete) ∷ ts) = delete ts
  statement (Fixed (Other word.Select) ∷ ts) = select ts
  statement (Fixed (Other word.Explain) ∷ ts) = explain ts
  statement _ = None
