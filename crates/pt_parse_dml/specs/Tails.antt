-- The grammar of which rows a statement takes.
--
--     source  = FROM target tail
--     tail    = [WHERE cond] [ORDER BY order {, order}] [LIMIT n]
--     order   = name [ASC | DESC]
--
-- After the manual's section 13.2.9, "SELECT Syntax". Without ORDER BY no column orders the rows. A name alone orders as with ASC.
use Rattle.std.specs.Prelude.{ℕ, ℤ, List, [], ◌∷◌, Bool, true, false, Option, Some, None}
use Rattle.pt_ast.specs.declared.tree.Cond.{Cond}
use Rattle.pt_ast.specs.declared.statement.Tail.{Tail}
use Rattle.pt_parse_expr.specs.declared.alphabet.Reserved.TheVariants as word
use Rattle.pt_parse_expr.specs.Grammar.{Symbols, IsCond}
use Rattle.pt_parse_ddl.specs.Words.{the, IsName}
use Rattle.pt_parse_ddl.specs.Lists.{IsOptional, AreListed}
use Rattle.pt_parse_ddl.specs.Columns.{IsNumber}
use Rattle.pt_parse_dml.specs.declared.targets.Target.{Target}
use Rattle.pt_parse_dml.specs.declared.tails.Source.{Source}
use Rattle.pt_parse_dml.specs.Rows.{IsTarget}

-- WHERE cond
pub data IsWhere : Symbols → Cond → Symbols → Type 0 where
  condition : {ts rest : Symbols} {c : Cond} → IsCond ts c rest → IsWhere (the word.Where ∷ ts) c rest

-- [ASC | DESC], true for DESC
pub data IsDirection : Symbols → Bool → Symbols → Type 0 where
  unsaid : {ts : Symbols} → IsDirection ts false ts
  rising : {rest : Symbols} → IsDirection (the word.Asc ∷ rest) false rest
  falling : {rest : Symbols} → IsDirection (the word.Desc ∷ rest) true rest

-- a column to order by, true for DESC
pub data IsOrder : Symbols → List ℕ × Bool → Symbols → Type 0 where
  order : {ts us rest : Symbols} {column : List ℕ} {falls : Bool} → IsName ts column us → IsDirection us falls rest → IsOrder ts (column, falls) rest

-- ORDER BY order {, order}
pub data AreOrders : Symbols → List (List ℕ × Bool) → Symbols → Type 0 where
  orders : {ts rest : Symbols} {columns : List (List ℕ × Bool)} → AreListed IsOrder ts columns rest → AreOrders (the word.Order ∷ the word.By ∷ ts) columns rest

-- LIMIT n
pub data IsLimit : Symbols → ℤ → Symbols → Type 0 where
  limit : {ts rest : Symbols} {n : ℤ} → IsNumber ts n rest → IsLimit (the word.Limit ∷ ts) n rest

-- those that are listed, none where there is no list
abbrev pub or_none : {A : Type 0} → Option (List A) → List A
or_none None = []
or_none (Some xs) = xs

pub data IsTail : Symbols → Tail → Symbols → Type 0 where
  tail : {ts us vs rest : Symbols} {c : Option Cond} {columns : Option (List (List ℕ × Bool))} {n : Option ℤ} → IsOptional IsWhere ts c us
      → IsOptional AreOrders us columns vs → IsOptional IsLimit vs n rest → IsTail ts (record { cond = c; order = or_none columns; limit = n }) rest

-- FROM target tail
pub data IsSource : Symbols → Source → Symbols → Type 0 where
  source : {ts us rest : Symbols} {on : Target} {t : Tail} → IsTarget ts on us → IsTail us t rest
      → IsSource (the word.From ∷ ts) (record { target = on; tail = t }) rest
