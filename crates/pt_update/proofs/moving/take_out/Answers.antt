use Rattle.pt_books.proofs.Spots.{books_removed}
use Rattle.pt_update.proofs.moving.take_out.Goals as goal

pub returns-clause-books : goal.returns-clause-books
returns-clause-books g c tells map is before now cells holds unique up there placed keyed had =
    books_removed c.args.def.now before now up c.args.serial cells c.args.spot there placed c.load.new.books c.remove_keyed.new.books (c.in_ok-load.ensures.books tells map is before now holds unique up had)
    (c.remove_keyed.ensures keyed)
