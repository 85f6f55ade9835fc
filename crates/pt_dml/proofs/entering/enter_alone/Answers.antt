use Rattle.std.proofs.Common.{Ok, refl, subst, sym, ◌∙◌}
use Rattle.pt_db.proofs.Spots.{placed_spot}
use Rattle.pt_books.specs.Books.{Enters as EntersBook}
use Rattle.pt_dml.proofs.Adding.{books_work, gives_work}
use Rattle.pt_dml.proofs.Rounds.{held_less, removed_there, round_more, round_none, round_ready, same_then}
use Rattle.pt_dml.proofs.entering.enter_alone.Goals as goal

pub loop-serial-init : goal.loop-serial-init
loop-serial-init c = record {
  there = c.requires;
  same = record { first = refl; next = refl; skipped = refl };
  work = λ def number of w. w;
  rounds = λ def before valid at keyed number w on. round_none def before c.args.row.now.cells c.args.work.now on;
}

pub loop-serial-smaller : goal.loop-serial-smaller
loop-serial-smaller c =
    let agrees = subst (λ o. EntersBook c.loop-serial.work.books c.enter.new.books c.args.spot c.args.row.now (Ok o)) c.in-Some.is c.in_ok-serial.ensures in
    held_less c.loop-serial.work.books c.enter.new.books c.give_way.new.work.books c.args.spot c.args.row.now c.in-Some.serial agrees c.in_ok-give_way.ensures.books

pub loop-serial-preserved : goal.loop-serial-preserved
loop-serial-preserved c =
    let agrees = subst (λ o. EntersBook c.loop-serial.work.books c.enter.new.books c.args.spot c.args.row.now (Ok o)) c.in-Some.is c.in_ok-serial.ensures in
    let gives = c.in_ok-give_way.ensures in
    record {
      there = removed_there c.enter.new.books c.give_way.new.work.books c.args.spot c.in-Some.serial gives.books;
      same = same_then c.args.work.now (record c.loop-serial.work { books = c.enter.new.books }) c.give_way.new.work
          (record { first = c.loop-serial.invariant.same.first; next = c.loop-serial.invariant.same.next; skipped = c.loop-serial.invariant.same.skipped }) gives.same;
      work = λ def number of w. gives_work def number (record c.loop-serial.work { books = c.enter.new.books }) c.give_way.new.work
          (books_work def number c.loop-serial.work c.enter.new.books (c.loop-serial.invariant.work def number of w)) c.args.spot c.in-Some.serial of gives;
      rounds = λ def before valid at keyed number w on.
          let now = c.loop-serial.invariant.work def number (placed_spot def valid c.args.row.now.cells c.args.spot at.placed) w in
          round_more def valid before c.args.work.now c.loop-serial.work c.args.spot c.args.row.now at.placed keyed (c.loop-serial.invariant.rounds def before valid at keyed number w on) c.enter.new.books
          c.give_way.new.work c.in-Some.serial now.puts now.counted agrees gives;
    }

pub returns-clause-ready : goal.returns-clause-ready
returns-clause-ready c def before valid at keyed own number w on =
    let entered = subst (λ o. EntersBook c.loop-serial.work.books c.enter.new.books c.args.spot c.args.row.now (Ok o)) c.in_default.is c.in_ok-serial.ensures in
    round_ready def valid before c.args.work.now c.loop-serial.work c.args.spot c.args.row.now at.placed keyed (c.loop-serial.invariant.rounds def before valid at keyed number w on) c.enter.new.books
    entered (own ∙ sym c.loop-serial.invariant.same.next) c.loop-serial.invariant.same
