use Rattle.std.proofs.Common.{subst}
use Rattle.std.proofs.lemmas.List.{take_all}
use Rattle.pt_books.specs.Books.{IsBookOf}
use Rattle.pt_books.proofs.OneBook.{book_more, book_none}
use Rattle.pt_books.proofs.books.book_of.Goals as goal

pub loop-row-init : goal.loop-row-init
loop-row-init c = λ unique up. book_none c.args.def.now c.in_ok-book.book c.in_ok-book.ensures.keys c.in_ok-book.ensures.entries

pub loop-row-preserved : goal.loop-row-preserved
loop-row-preserved c = λ unique up.
    book_more c.args.def.now c.args.rows.now c.loop-row.row-index c.row-item.result c.loop-row-test.true c.row-item.is c.loop-row.book c.enter_read.new.book unique up (c.loop-row.invariant unique up) c.in_ok-enter_read.ensures

pub returns : goal.returns
returns c = λ unique up.
    subst (λ rows. IsBookOf c.args.def.now rows c.loop-row.book) (take_all c.loop-row.row-index c.args.rows.now c.loop-row-test.false) (c.loop-row.invariant unique up)
