use Rattle.std.proofs.Common.{Some, ap, sym, ◌∙◌}
use Rattle.pt_unique.specs.Book.{entry_at}
use Rattle.pt_books.proofs.Spots.{others_same}
use Rattle.pt_books.proofs.books.remove.Goals as goal

pub returns : goal.returns
returns c =
    let later = c.remove.new.self in
    let updates = (c.get_mut.follows.holds later).3 c.requires in
    record {
      book = c.in-Some.book.now;
      was = sym c.in-Some.ensures.value;
      is = updates.1 ∙ ap (λ b. Some b) c.remove.ensures.is;
      entries = λ other. ap (λ b. entry_at b other) (sym c.remove.ensures.is) ∙ c.remove.ensures.at other;
      others = others_same c.args.books.now (c.get_mut.follows.lender later) c.args.spot (Some later) updates.0;
    }
