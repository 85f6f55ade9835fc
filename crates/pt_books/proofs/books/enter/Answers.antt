use Rattle.std.proofs.Common.{Some, ap, subst, sym, ◌∙◌}
use Rattle.pt_unique.specs.Book.{entry_of}
use Rattle.pt_unique.specs.Faults.{IsFaultOf}
use Rattle.pt_books.proofs.Spots.{all_same, others_same}
use Rattle.pt_books.proofs.books.enter.Goals as goal

pub returns-in-Ok : goal.returns-in-Ok
returns-in-Ok c =
    let later = c.enter.new.self in
    let updates = (c.get_mut.follows.holds later).3 c.requires in
    record {
      book = c.in-Some.book.now;
      was = sym c.in-Some.ensures.value;
      free = c.in-Ok.ensures.free;
      is = updates.1 ∙ ap (λ b. Some b) c.in-Ok.ensures.ok;
      others = others_same c.args.books.now (c.get_mut.follows.lender later) c.args.spot (Some later) updates.0;
    }

pub returns-in-Err-Taken : goal.returns-in-Err-Taken
returns-in-Err-Taken c =
    let later = c.enter.new.self in
    let book = c.in-Some.book.now in
    let updates = (c.get_mut.follows.holds later).3 c.requires in
    record {
      book = book;
      was = sym c.in-Some.ensures.value;
      taken = subst (IsFaultOf book (entry_of book.keys c.args.row.now.cells)) c.in-Err-Taken.field-0-is c.in-Err-Taken.ensures.fault;
      same = all_same c.args.books.now (c.get_mut.follows.lender later) c.args.spot book later (sym c.in-Some.ensures.value) updates.1 c.in-Err-Taken.ensures.err
          (others_same c.args.books.now (c.get_mut.follows.lender later) c.args.spot (Some later) updates.0);
    }

pub returns-in-Err-NoMemory : goal.returns-in-Err-NoMemory
returns-in-Err-NoMemory c =
    let later = c.enter.new.self in
    let book = c.in-Some.book.now in
    let updates = (c.get_mut.follows.holds later).3 c.requires in
    all_same c.args.books.now (c.get_mut.follows.lender later) c.args.spot book later (sym c.in-Some.ensures.value) updates.1 c.in-Err-NoMemory.ensures.err
    (others_same c.args.books.now (c.get_mut.follows.lender later) c.args.spot (Some later) updates.0)
