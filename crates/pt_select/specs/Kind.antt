-- The statements that are executed here.
use Rattle.std.specs.Prelude.{Bool, true, false}
use Rattle.pt_ast.specs.declared.statement.Stmt.{Stmt}
use Rattle.pt_ast.specs.declared.statement.Stmt.TheVariants as stmt

abbrev pub is_select : Stmt → Bool
is_select (stmt.Select query) = true
is_select (stmt.Show table) = true
is_select _ = false
