-- The grammar of the table that a statement on rows speaks of, of the rows that it puts there, and of the values that it assigns.
--
--     target  = name [PARTITION cols]
--     cols    = ( name {, name} )
--     new     = [INTO] target [cols] rows
--     rows    = VALUES row {, row}
--     row     = ( value {, value} )
--     value   = expr | DEFAULT
--     assigns = SET assign {, assign}
--     assign  = name = value
--
-- After the manual's sections 13.2.5, "INSERT Syntax", 13.2.11, "UPDATE Syntax", and 22.5, "Partition Selection". DEFAULT is a value by
-- itself, and stands in no expression. In an assignment `=` is no comparison: behind it stands one value.
use Rattle.std.specs.Prelude.{ℕ, List, ◌∷◌, Option}
use Rattle.pt_ast.specs.declared.tree.Cmp.TheVariants as cmp
use Rattle.pt_ast.specs.declared.tree.Expr.{Expr}
use Rattle.pt_ast.specs.declared.statement.ValueSpec.{ValueSpec}
use Rattle.pt_ast.specs.declared.statement.ValueSpec.TheVariants as value
use Rattle.pt_ast.specs.declared.statement.NewRows.{NewRows}
use Rattle.pt_parse_expr.specs.declared.alphabet.Mark.TheVariants.{Compare}
use Rattle.pt_parse_expr.specs.declared.alphabet.Reserved.TheVariants as word
use Rattle.pt_parse_expr.specs.declared.alphabet.Symbol.TheVariants.{Fixed}
use Rattle.pt_parse_expr.specs.Grammar.{Symbols, IsExpr}
use Rattle.pt_parse_ddl.specs.Words.{the, IsName}
use Rattle.pt_parse_ddl.specs.Lists.{IsOptional, AreListed, InTuple}
use Rattle.pt_parse_ddl.specs.Keys.{AreColumns}
use Rattle.pt_parse_dml.specs.declared.targets.Target.{Target}

-- PARTITION cols
pub data ArePartitions : Symbols → List (List ℕ) → Symbols → Type 0 where
  partitions : {ts rest : Symbols} {names : List (List ℕ)} → AreColumns ts names rest → ArePartitions (the word.Partition ∷ ts) names rest

-- name [PARTITION cols]
pub data IsTarget : Symbols → Target → Symbols → Type 0 where
  target : {ts us rest : Symbols} {table : List ℕ} {parts : Option (List (List ℕ))} → IsName ts table us → IsOptional ArePartitions us parts rest
      → IsTarget ts (record { table = table; parts = parts }) rest

-- [INTO]
pub data IsInto : Symbols → Unit {0} → Symbols → Type 0 where
  without : {ts : Symbols} → IsInto ts tt ts
  into : {rest : Symbols} → IsInto (the word.Into ∷ rest) tt rest

pub data IsValue : Symbols → ValueSpec → Symbols → Type 0 where
  default : {rest : Symbols} → IsValue (the word.Default ∷ rest) value.Default rest
  expression : {ts rest : Symbols} {x : Expr} → IsExpr ts x rest → IsValue ts (value.Value x) rest

abbrev pub IsRow : Symbols → List ValueSpec → Symbols → Type 0
IsRow = InTuple IsValue

-- VALUES row {, row}
pub data AreRows : Symbols → List (List ValueSpec) → Symbols → Type 0 where
  rows : {ts rest : Symbols} {values : List (List ValueSpec)} → AreListed IsRow ts values rest → AreRows (the word.Values ∷ ts) values rest

-- [INTO] target [cols] rows
pub data AreNewRows : Symbols → NewRows → Symbols → Type 0 where
  new_rows : {ts us vs ws rest : Symbols} {on : Target} {columns : Option (List (List ℕ))} {values : List (List ValueSpec)} → IsInto ts tt us
      → IsTarget us on vs → IsOptional AreColumns vs columns ws → AreRows ws values rest
      → AreNewRows ts (record { table = on.table; parts = on.parts; columns = columns; rows = values }) rest

-- name = value
pub data IsAssign : Symbols → List ℕ × ValueSpec → Symbols → Type 0 where
  assign : {ts us rest : Symbols} {column : List ℕ} {x : ValueSpec} → IsName ts column (Fixed (Compare cmp.Eq) ∷ us) → IsValue us x rest
      → IsAssign ts (column, x) rest

-- SET assign {, assign}
pub data AreAssigns : Symbols → List (List ℕ × ValueSpec) → Symbols → Type 0 where
  assigns : {ts rest : Symbols} {xs : List (List ℕ × ValueSpec)} → AreListed IsAssign ts xs rest → AreAssigns (the word.Set ∷ ts) xs rest
