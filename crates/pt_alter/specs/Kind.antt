-- The statements that are executed here.
use Rattle.std.specs.Prelude.{Bool, true, false}
use Rattle.pt_ast.specs.declared.statement.Stmt.{Stmt}
use Rattle.pt_ast.specs.declared.statement.Stmt.TheVariants as stmt

abbrev pub is_alter : Stmt → Bool
is_alter (stmt.Create if_not table spec) = true
is_alter (stmt.Like if_not table other) = true
is_alter (stmt.Drop if_there table) = true
is_alter _ = false
