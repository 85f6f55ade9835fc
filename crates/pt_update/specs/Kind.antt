-- The statements that are executed here.
use Rattle.std.specs.Prelude.{Bool, true, false}
use Rattle.pt_ast.specs.declared.statement.Stmt.{Stmt}
use Rattle.pt_ast.specs.declared.statement.Stmt.TheVariants as stmt

abbrev pub is_update : Stmt → Bool
is_update (stmt.Update table parts assigns tail) = true
is_update (stmt.Delete table parts tail) = true
is_update _ = false
