-- What an INSERT or a REPLACE comes to, where its session stands for a database.
use Rattle.std.specs.Prelude.{◌≡◌, Result, Ok, Err, Some}
use Rattle.pt_ast.specs.declared.database.Db.{Db}
use Rattle.pt_ast.specs.declared.database.Table.{Table}
use Rattle.pt_ast.specs.declared.statement.NewRows.{NewRows}
use Rattle.pt_db.specs.Lookup.{table_of}
use Rattle.pt_flat.specs.declared.filling.InsertMode.{InsertMode}
use Rattle.pt_flat.specs.Insert.{inserted}
use Rattle.pt_books.specs.declared.halt.Halt.{Halt}
use Rattle.pt_books.specs.declared.halt.Halt.TheVariants as halt
use Rattle.pt_dml.specs.declared.work.Work.{Work}
use Rattle.pt_dml.specs.Work.{IsWorkOn, filling_of}

-- The rows of the table with its changes are what the model says, and sound.
pub record IsInserted (how : InsertMode) (db : Db) (new : NewRows) (work : Work) : Type 0 where
  pub table : Table
  pub held : table_of db new.table ≡ Some table
  pub is : inserted how db new ≡ Ok (filling_of table.rows work)
  pub on : IsWorkOn table.def table.rows work

-- A call leaves it so, or fails with the model's refusal, or stops.
abbrev pub Inserts : InsertMode → Db → NewRows → Result Work Halt → Type 0
Inserts how db new (Ok work) = IsInserted how db new work
Inserts how db new (Err (halt.Refused why)) = inserted how db new ≡ Err why
Inserts how db new (Err (halt.Stopped stop)) = Unit {0}
