-- The reading of tables, partitions, new rows and assignments, as functions on lists of symbols. (In the shape of the code.)
use Rattle.std.specs.Prelude.{ℕ, List, ◌∷◌, Option, Some, None}
use Rattle.pt_ast.specs.declared.tree.Cmp.TheVariants as cmp
use Rattle.pt_ast.specs.declared.tree.Expr.{Expr}
use Rattle.pt_ast.specs.declared.statement.ValueSpec.{ValueSpec}
use Rattle.pt_ast.specs.declared.statement.ValueSpec.TheVariants as value
use Rattle.pt_ast.specs.declared.statement.NewRows.{NewRows}
use Rattle.pt_parse_expr.specs.declared.alphabet.Mark.TheVariants.{Compare, Other}
use Rattle.pt_parse_expr.specs.declared.alphabet.Reserved.TheVariants as word
use Rattle.pt_parse_expr.specs.declared.alphabet.Symbol.TheVariants.{Fixed}
use Rattle.pt_parse_expr.specs.Grammar.{Symbols}
use Rattle.pt_parse_expr.specs.Reader.{Reading, Reader, mapped}
use Rattle.pt_parse_ddl.specs.Steps.{and_then, optional, several, tuple, named}
use Rattle.pt_parse_dml.specs.declared.targets.Target.{Target}

unfoldable pub partitions : Reader (List (List ℕ))
partitions (Fixed (Other word.Partition) ∷ ts) = tuple named ts
partitions _ = None

abbrev pub with_parts : List ℕ → Option (List (List ℕ)) × Symbols → Reading Target
with_parts table p = Some (record { table = table; parts = p.0 }, p.1)

unfoldable pub target : Reader Target
target ts = and_then (named ts) (λ table us. with_parts table (optional partitions us))

-- what stands behind [INTO]
unfoldable pub past_into : Symbols → Symbols
past_into (Fixed (Other word.Into) ∷ ts) = ts
past_into ts = ts

-- over the reader of expressions
module _ (expr : Reader Expr) where
  abbrev pub expression : Reader ValueSpec
  expression ts = mapped value.Value (expr ts)

  unfoldable pub value_spec : Reader ValueSpec
  value_spec (Fixed (Other word.Default) ∷ ts) = Some (value.Default, ts)
  value_spec ts = expression ts

  -- VALUES row {, row}
  unfoldable pub value_rows : Reader (List (List ValueSpec))
  value_rows (Fixed (Other word.Values) ∷ ts) = several (tuple value_spec) ts
  value_rows _ = None

  abbrev pub with_columns : Target → Option (List (List ℕ)) × Symbols → Reading NewRows
  with_columns on p = mapped (λ rows. record { table = on.table; parts = on.parts; columns = p.0; rows = rows }) (value_rows p.1)

  abbrev pub with_rows : Target → Symbols → Reading NewRows
  with_rows on ts = with_columns on (optional (tuple named) ts)

  unfoldable pub new_rows : Reader NewRows
  new_rows ts = and_then (target (past_into ts)) with_rows

  -- ---- assignments

  abbrev pub assigned : List ℕ → Symbols → Reading (List ℕ × ValueSpec)
  assigned column ts = mapped (λ x. (column, x)) (value_spec ts)

  -- what stands behind the name of a column
  unfoldable pub assigned_to : List ℕ → Reader (List ℕ × ValueSpec)
  assigned_to column (Fixed (Compare cmp.Eq) ∷ ts) = assigned column ts
  assigned_to column _ = None

  unfoldable pub assign : Reader (List ℕ × ValueSpec)
  assign ts = and_then (named ts) assigned_to

  -- SET assign {, assign}
  unfoldable pub assigns : Reader (List (List ℕ × ValueSpec))
  assigns (Fixed (Other word.Set) ∷ ts) = several assign ts
  assigns _ = None
