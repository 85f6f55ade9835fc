use Rattle.std.proofs.Common.{take}
use Rattle.pt_ast.specs.Keys.{AreUnique}
use Rattle.pt_db.specs.Rows.{AreRising}
use Rattle.pt_books.specs.Books.{IsBookOf}
use Rattle.pt_books.proofs.books.book_of.Given as goal

abbrev pub invariant-loop-row : goal.invariant-loop-row
invariant-loop-row l = AreUnique l.def l.rows → AreRising l.rows → IsBookOf l.def (take l.row-index l.rows) l.book
