use Rattle.std.proofs.Common.{refl, subst, sym, ◌∙◌}
use Rattle.std.specs.Option.{IsSome, IsSomeAnd}
use Rattle.std.proofs.lemmas.Result.{err_from_is_err_and}
use Rattle.pt_host.specs.Listed.{FileList, by_name}
use Rattle.pt_db.specs.Rows.{spot_rows}
use Rattle.pt_db.specs.Spots.{IsSpotOf}
use Rattle.pt_holds.specs.Holds.{spot_file}
use Rattle.pt_holds.proofs.Held.{one_held}
use Rattle.pt_holds.specs.Bad.{Bad}
use Rattle.pt_session.specs.Session.{IsOver}
use Rattle.pt_store.specs.Stops.{IfBad}
use Rattle.pt_store.specs.Store.{IsStore}
use Rattle.pt_store.proofs.Steps.{no_look}
use Rattle.pt_books.specs.Books.{book_at, is_keyed}
use Rattle.pt_books.proofs.Exits.{at_err}
use Rattle.pt_books.proofs.Spots.{books_read, unwanting_some, wanting_none}
use Rattle.pt_books.proofs.loading.load.Goals as goal

pub rows-requires-clause-spot : goal.rows-requires-clause-spot
rows-requires-clause-spot g c = subst (λ o. IsSomeAnd o (λ d. IsSpotOf d c.args.spot)) (sym c.requires.held) c.requires.spot

pub returns-then-not-is_wanting-clause-looks : goal.returns-then-not-is_wanting-clause-looks
returns-then-not-is_wanting-clause-looks g c tells map is = no_look c.args.session.now.store map (g.H.Host.world c.args.host.now) is

pub returns-then-not-is_wanting-clause-there : goal.returns-then-not-is_wanting-clause-there
returns-then-not-is_wanting-clause-there g c keyed =
    unwanting_some (is_keyed c.args.def.now) (book_at c.args.books.now c.args.spot) (sym c.is_wanting.ensures ∙ c.if-not-is_wanting.true) keyed

pub returns-in_err-rows-clause-looks : goal.returns-in_err-rows-clause-looks
returns-in_err-rows-clause-looks g c tells map is = c.in_err-rows.ensures.told tells map is

pub returns-in_err-rows-clause-bad : goal.returns-in_err-rows-clause-bad
returns-in_err-rows-clause-bad g c =
    let p = err_from_is_err_and c.from_residual.result c.from_residual.ensures.1 in
    at_err
    (λ r. IfBad r (λ name place. g.H.Host.tells → (map : FileList) → IsStore c.args.session.now.store map (g.H.Host.world c.args.host.now) → IsOver c.args.session.now (by_name map) → Bad (by_name map) name place))
    c.from_residual.result p.0 c.in_err-rows.field-0.0 p.1 p.2 c.in_err-rows.ensures.bad

pub returns-in_err-book-clause-looks : goal.returns-in_err-book-clause-looks
returns-in_err-book-clause-looks g c tells map is = c.in_ok-rows.ensures.told tells map is

pub returns-in_err-put_book-clause-looks : goal.returns-in_err-put_book-clause-looks
returns-in_err-put_book-clause-looks g c tells map is = c.in_ok-rows.ensures.told tells map is

pub returns-clause-looks : goal.returns-clause-looks
returns-clause-looks g c tells map is = c.in_ok-rows.ensures.told tells map is

pub returns-clause-there : goal.returns-clause-there
returns-clause-there g c keyed = subst (λ o. IsSome o) (sym c.in_ok-put_book.ensures.here) refl

pub returns-clause-books : goal.returns-clause-books
returns-clause-books g c tells map is before now holds unique up had =
    let wanting = sym c.is_wanting.ensures ∙ c.if-not-is_wanting.false in
    let file = by_name map (spot_file c.args.table.now c.args.def.now c.args.spot) in
    let read = one_held file c.in_ok-rows.rows (spot_rows c.args.def.now c.args.spot before) (c.in_ok-rows.ensures.rows tells map is c.args.def.now c.requires.held) (holds.each c.args.spot c.requires.spot) in
    books_read c.args.def.now before now c.args.books.now c.put_book.new.books c.args.spot c.items.result.now c.in_ok-book.book had
    (wanting_none (is_keyed c.args.def.now) (book_at c.args.books.now c.args.spot) wanting) c.in_ok-put_book.ensures.here c.in_ok-put_book.ensures.others (c.items.ensures ∙ read) unique up c.in_ok-book.ensures
