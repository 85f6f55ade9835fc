use Rattle.std.proofs.Common.{Some}
use Rattle.pt_books.proofs.Spots.{others_same}
use Rattle.pt_books.proofs.books.put_book.Goals as goal

pub returns-clause-others : goal.returns-clause-others
returns-clause-others c = others_same c.args.books.now c.insert.new.self c.args.spot (Some c.args.book) c.in_ok-insert.ensures.updates.0
