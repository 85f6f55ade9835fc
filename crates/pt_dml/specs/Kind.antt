-- The statements that are executed here.
use Rattle.std.specs.Prelude.{Bool, true, false}
use Rattle.pt_ast.specs.declared.statement.Stmt.{Stmt}
use Rattle.pt_ast.specs.declared.statement.Stmt.TheVariants as stmt

abbrev pub is_dml : Stmt → Bool
is_dml (stmt.Insert ignore new) = true
is_dml (stmt.Replace new) = true
is_dml _ = false
