-- Storable statements.
use Rattle.std.specs.Prelude.{ℕ, List, All, Option, IfSome}
use Rattle.pt_ast.specs.declared.tree.Expr.{Expr}
use Rattle.pt_ast.specs.declared.statement.ValueSpec.{ValueSpec}
use Rattle.pt_ast.specs.declared.statement.ValueSpec.TheVariants as value
use Rattle.pt_ast.specs.declared.statement.NewRows.{NewRows}
use Rattle.pt_ast.specs.declared.statement.Tail.{Tail}
use Rattle.pt_ast.specs.declared.statement.Query.{Query}
use Rattle.pt_ast.specs.declared.statement.Stmt.{Stmt}
use Rattle.pt_ast.specs.declared.statement.Stmt.TheVariants as stmt
use Rattle.pt_ast.specs.Storable.{HasAtLeast, IsCounted, IsNotNegative}
use Rattle.pt_ast.specs.StorableExpr.{IsStorableExpr}
use Rattle.pt_ast.specs.StorableCond.{IsStorableCond}
use Rattle.pt_ast.specs.StorableSpec.{AreStorableParts, IsStorablePartSpec, IsStorableSpec}

-- where names are listed, there is one at least
abbrev pub AreNamed : Option (List (List ℕ)) → Type 0
AreNamed names = IfSome names (HasAtLeast 1)

abbrev pub IsStorableValue : ValueSpec → Type 0
IsStorableValue value.Default = Unit {0}
IsStorableValue (value.Value expr) = IsStorableExpr expr

-- the values of a row, of which there is one at least
abbrev pub AreStorableValues : List ValueSpec → Type 0
AreStorableValues values = HasAtLeast 1 values × All IsStorableValue values

pub record AreStorableRows (new : NewRows) : Type 0 where
  pub parts : AreNamed new.parts
  pub columns : AreNamed new.columns
  pub some : HasAtLeast 1 new.rows
  pub rows : All AreStorableValues new.rows

-- there may be no column to order by
pub record IsStorableTail (tail : Tail) : Type 0 where
  pub cond : IfSome tail.cond IsStorableCond
  pub order : IsCounted tail.order
  pub limit : IfSome tail.limit IsNotNegative

abbrev pub AreStorableExprs : List Expr → Type 0
AreStorableExprs exprs = HasAtLeast 1 exprs × All IsStorableExpr exprs

pub record IsStorableQuery (query : Query) : Type 0 where
  pub items : IfSome query.items AreStorableExprs
  pub parts : AreNamed query.parts
  pub tail : IsStorableTail query.tail

abbrev pub IsStorableStmt : Stmt → Type 0
IsStorableStmt (stmt.Create if_not table spec) = IsStorableSpec spec
IsStorableStmt (stmt.Like if_not table other) = Unit {0}
IsStorableStmt (stmt.Drop if_there table) = Unit {0}
IsStorableStmt (stmt.AddParts table parts) = AreStorableParts parts
IsStorableStmt (stmt.AddCount table count) = IsNotNegative count
IsStorableStmt (stmt.DropParts table names) = HasAtLeast 1 names
IsStorableStmt (stmt.Truncate table names) = AreNamed names
IsStorableStmt (stmt.Coalesce table count) = IsNotNegative count
IsStorableStmt (stmt.Reorganize table names parts) = HasAtLeast 1 names × AreStorableParts parts
IsStorableStmt (stmt.Exchange table name other) = Unit {0}
IsStorableStmt (stmt.RemoveParts table) = Unit {0}
IsStorableStmt (stmt.PartitionBy table spec) = IsStorablePartSpec spec
IsStorableStmt (stmt.Insert ignoring rows) = AreStorableRows rows
IsStorableStmt (stmt.Replace rows) = AreStorableRows rows
IsStorableStmt (stmt.Update table parts assigns tail) =
    AreNamed parts × HasAtLeast 1 assigns × All (λ assign. IsStorableValue assign.1) assigns × IsStorableTail tail
IsStorableStmt (stmt.Delete table parts tail) = AreNamed parts × IsStorableTail tail
IsStorableStmt (stmt.Select query) = IsStorableQuery query
IsStorableStmt (stmt.Explain query) = IsStorableQuery query
IsStorableStmt (stmt.Show table) = Unit {0}
