-- The reading of which rows a statement takes, as functions on lists of symbols. (In the shape of the code.)
use Rattle.std.specs.Prelude.{ℕ, ℤ, List, ◌∷◌, Bool, true, false, Option, Some, None}
use Rattle.pt_ast.specs.declared.tree.Cond.{Cond}
use Rattle.pt_ast.specs.declared.statement.Tail.{Tail}
use Rattle.pt_parse_expr.specs.declared.alphabet.Mark.TheVariants.{Other}
use Rattle.pt_parse_expr.specs.declared.alphabet.Reserved.TheVariants as word
use Rattle.pt_parse_expr.specs.declared.alphabet.Symbol.TheVariants.{Fixed}
use Rattle.pt_parse_expr.specs.Grammar.{Symbols}
use Rattle.pt_parse_expr.specs.Reader.{Reading, Reader, as_cond, either, found}
use Rattle.pt_parse_ddl.specs.Steps.{and_then, optional, several, named, numbered}
use Rattle.pt_parse_dml.specs.declared.targets.Target.{Target}
use Rattle.pt_parse_dml.specs.declared.tails.Source.{Source}
use Rattle.pt_parse_dml.specs.Tails.{or_none}
use Rattle.pt_parse_dml.specs.RowReader.{target}

-- conditions, as deep as they may nest
unfoldable pub whole_cond : Reader Cond
whole_cond ts = as_cond (either (found 64) ts)

-- ---- ORDER BY

-- true for DESC, and what stands behind [ASC | DESC]
unfoldable pub direction : Symbols → Bool × Symbols
direction (Fixed (Other word.Asc) ∷ ts) = (false, ts)
direction (Fixed (Other word.Desc) ∷ ts) = (true, ts)
direction ts = (false, ts)

abbrev pub directed : List ℕ → Symbols → Reading (List ℕ × Bool)
directed column ts = let falls = direction ts in Some ((column, falls.0), falls.1)

unfoldable pub column_order : Reader (List ℕ × Bool)
column_order ts = and_then (named ts) directed

unfoldable pub orders_by : Reader (List (List ℕ × Bool))
orders_by (Fixed (Other word.By) ∷ ts) = several column_order ts
orders_by _ = None

unfoldable pub orders : Reader (List (List ℕ × Bool))
orders (Fixed (Other word.Order) ∷ ts) = orders_by ts
orders _ = None

abbrev pub all_orders : Option (List (List ℕ × Bool)) × Symbols → List (List ℕ × Bool) × Symbols
all_orders p = (or_none p.0, p.1)

-- ---- LIMIT

unfoldable pub limited : Reader ℤ
limited (Fixed (Other word.Limit) ∷ ts) = numbered ts
limited _ = None

-- ---- the whole

abbrev pub with_limit : Option Cond → List (List ℕ × Bool) → Option ℤ × Symbols → Tail × Symbols
with_limit c columns p = (record { cond = c; order = columns; limit = p.0 }, p.1)

abbrev pub with_order : Option Cond → List (List ℕ × Bool) × Symbols → Tail × Symbols
with_order c p = with_limit c p.0 (optional limited p.1)

abbrev pub with_cond : Option Cond × Symbols → Tail × Symbols
with_cond p = with_order p.0 (all_orders (optional orders p.1))

abbrev pub with_tail : Target → Tail × Symbols → Reading Source
with_tail on p = Some (record { target = on; tail = p.0 }, p.1)

-- over the reader of conditions
module _ (cond : Reader Cond) where
  unfoldable pub condition : Reader Cond
  condition (Fixed (Other word.Where) ∷ ts) = cond ts
  condition _ = None

  unfoldable pub tail_of : Symbols → Tail × Symbols
  tail_of ts = with_cond (optional condition ts)

  unfoldable pub taken_from : Reader Source
  taken_from ts = and_then (target ts) (λ on us. with_tail on (tail_of us))

  unfoldable pub source : Reader Source
  source (Fixed (Other word.From) ∷ ts) = taken_from ts
  source _ = None
