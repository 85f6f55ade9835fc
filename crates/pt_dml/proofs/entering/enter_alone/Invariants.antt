use Rattle.std.proofs.Common.{◌≡◌, ℕ, List, true}
use Rattle.std.specs.Option.{IsSome}
use Rattle.pt_ast.specs.declared.database.Row.{Row}
use Rattle.pt_ast.specs.declared.table.TableDef.{TableDef}
use Rattle.pt_place.specs.Valid.{IsValid}
use Rattle.pt_db.specs.Spots.{IsSpotOf}
use Rattle.pt_books.specs.Books.{book_at, is_keyed}
use Rattle.pt_dml.specs.Parts.{IsPlaced}
use Rattle.pt_dml.specs.Work.{IsSameWork, IsWork, IsWorkOn}
use Rattle.pt_dml.proofs.Rounds.{IsRound, held_in}
use Rattle.pt_dml.proofs.entering.enter_alone.Given as goal

abbrev pub invariant-loop-serial : goal.invariant-loop-serial
invariant-loop-serial l = record {
  there : IsSome (book_at l.work.books l.spot);
  same : IsSameWork l.initial.work l.work;
  work : (def : TableDef) (number : ℕ) → IsSpotOf def l.spot → IsWork def number l.initial.work → IsWork def number l.work;
  rounds : (def : TableDef) (before : List Row) → IsValid def → IsPlaced def l.spot l.row.cells → is_keyed def ≡ true → (number : ℕ) → IsWork def number l.initial.work → IsWorkOn def before l.initial.work → IsRound def before l.row.cells l.initial.work l.work;
}

abbrev pub decreases-loop-serial : goal.decreases-loop-serial
decreases-loop-serial l = held_in (book_at l.work.books l.spot)
