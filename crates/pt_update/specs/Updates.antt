-- What an UPDATE comes to, where its session stands for a database.
use Rattle.std.specs.Prelude.{◌≡◌, ℕ, List, length, Option, Result, Ok, Err}
use Rattle.pt_ast.specs.declared.database.Db.{Db}
use Rattle.pt_ast.specs.declared.statement.Tail.{Tail}
use Rattle.pt_ast.specs.declared.statement.ValueSpec.{ValueSpec}
use Rattle.pt_db.specs.Texts.{counts_text}
use Rattle.pt_flat.specs.Update.{update}
use Rattle.pt_books.specs.declared.halt.Halt.{Halt}
use Rattle.pt_books.specs.declared.halt.Halt.TheVariants as halt
use Rattle.pt_update.specs.declared.updating.Moved.{Moved}
use Rattle.pt_update.specs.Changes.{MeansRows}

-- A call gives the change that the model says, or fails with the model's refusal, or stops.
abbrev pub Updates : Db → List ℕ → Option (List (List ℕ)) → List (List ℕ × ValueSpec) → Tail → Result Moved Halt → Type 0
Updates db name parts assigns tail (Ok done) = MeansRows done.change db (counts_text done.matched (length done.change.puts)) (update db name parts assigns tail)
Updates db name parts assigns tail (Err (halt.Refused why)) = update db name parts assigns tail ≡ Err why
Updates db name parts assigns tail (Err (halt.Stopped stop)) = Unit {0}
