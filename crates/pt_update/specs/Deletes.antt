-- What a DELETE comes to, where its session stands for a database.
use Rattle.std.specs.Prelude.{◌≡◌, ℕ, List, length, Option, Result, Ok, Err}
use Rattle.pt_ast.specs.declared.database.Db.{Db}
use Rattle.pt_ast.specs.declared.statement.Tail.{Tail}
use Rattle.pt_db.specs.Texts.{count_text}
use Rattle.pt_flat.specs.Delete.{delete}
use Rattle.pt_holds.specs.declared.change.RowChange.{RowChange}
use Rattle.pt_books.specs.declared.halt.Halt.{Halt}
use Rattle.pt_books.specs.declared.halt.Halt.TheVariants as halt
use Rattle.pt_update.specs.Changes.{MeansRows}

-- A call gives the change that the model says, or fails with the model's refusal, or stops.
abbrev pub Deletes : Db → List ℕ → Option (List (List ℕ)) → Tail → Result RowChange Halt → Type 0
Deletes db name parts tail (Ok made) = MeansRows made db (count_text (length made.deletes)) (delete db name parts tail)
Deletes db name parts tail (Err (halt.Refused why)) = delete db name parts tail ≡ Err why
Deletes db name parts tail (Err (halt.Stopped stop)) = Unit {0}
