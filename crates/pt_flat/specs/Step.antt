-- The step of the model: what a statement leaves of a database and what it answers.
use Rattle.std.specs.Prelude.{Bool, true, false}
use Rattle.pt_ast.specs.declared.database.Db.{Db}
use Rattle.pt_ast.specs.declared.reply.Reply.{Reply}
use Rattle.pt_ast.specs.declared.statement.Stmt.{Stmt}
use Rattle.pt_ast.specs.declared.statement.Stmt.TheVariants as stmt
use Rattle.pt_db.specs.Outcome.{Outcome, db_behind, reply_of}
use Rattle.pt_flat.specs.Fresh.{nothing_done}
use Rattle.pt_flat.specs.Create.{create}
use Rattle.pt_flat.specs.Like.{like}
use Rattle.pt_flat.specs.DropTable.{drop_table}
use Rattle.pt_flat.specs.Show.{show}
use Rattle.pt_flat.specs.Insert.{insert}
use Rattle.pt_flat.specs.Replace.{replace}
use Rattle.pt_flat.specs.Update.{update}
use Rattle.pt_flat.specs.Delete.{delete}
use Rattle.pt_flat.specs.Select.{select}

-- The statements that have a step so far. The others come with later definitions.
abbrev pub is_covered : Stmt → Bool
is_covered (stmt.Create if_not table spec) = true
is_covered (stmt.Like if_not table other) = true
is_covered (stmt.Drop if_there table) = true
is_covered (stmt.Show table) = true
is_covered (stmt.Insert ignore new) = true
is_covered (stmt.Replace new) = true
is_covered (stmt.Update table parts assigns tail) = true
is_covered (stmt.Delete table parts tail) = true
is_covered (stmt.Select query) = true
is_covered _ = false

-- What a statement comes to. Those that aren't covered do nothing here.
abbrev pub step : Db → Stmt → Outcome
step db (stmt.Create if_not table spec) = create if_not db table spec
step db (stmt.Like if_not table other) = like if_not db table other
step db (stmt.Drop if_there table) = drop_table if_there db table
step db (stmt.Show table) = show db table
step db (stmt.Insert ignore new) = insert ignore db new
step db (stmt.Replace new) = replace db new
step db (stmt.Update table parts assigns tail) = update db table parts assigns tail
step db (stmt.Delete table parts tail) = delete db table parts tail
step db (stmt.Select query) = select db query
step db _ = nothing_done db

-- the database after a statement; a refused one leaves it as it is
abbrev pub after : Db → Stmt → Db
after db statement = db_behind db (step db statement)

-- the answer to a statement
abbrev pub answer : Db → Stmt → Reply
answer db statement = reply_of (step db statement)
