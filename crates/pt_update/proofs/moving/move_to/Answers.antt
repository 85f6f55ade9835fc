use Rattle.std.proofs.Common.{◌≡◌, true, Some, refl, ap, subst, sym, ◌∙◌}
use Rattle.std.proofs.lemmas.Result.{err_from_is_err_and}
use Rattle.pt_host.specs.Listed.{FileList, by_name}
use Rattle.pt_ast.specs.declared.database.Row.{Row}
use Rattle.pt_ast.specs.declared.database.Spot.{Spot}
use Rattle.pt_place.specs.Place.{place_of}
use Rattle.pt_store.specs.Stops.{IfBad}
use Rattle.pt_store.specs.Store.{IsStore}
use Rattle.pt_store.proofs.Steps.{look_then}
use Rattle.pt_holds.specs.Bad.{Bad}
use Rattle.pt_session.specs.Session.{IsOver}
use Rattle.pt_books.specs.declared.halt.Halt.TheVariants as halt
use Rattle.pt_books.specs.Halts.{of_fault, stop_of}
use Rattle.pt_books.proofs.Exits.{at_err, later_bad}
use Rattle.pt_books.specs.Books.{is_keyed}
use Rattle.pt_db.specs.Rows.{others}
use Rattle.pt_db.specs.Spots.{IsSpotOf}
use Rattle.pt_db.proofs.Serials.{others_rise}
use Rattle.pt_db.proofs.Spots.{placed_spot}
use Rattle.pt_update.specs.declared.work.Work.{Work}
use Rattle.pt_update.specs.Parts.{with_moved}
use Rattle.pt_update.specs.Work.{Moves}
use Rattle.pt_update.proofs.ModelRows.{added_moves, others_unique, refused_moves}
use Rattle.pt_update.proofs.RowEnds.{spot_in, stands_at}
use Rattle.pt_update.proofs.Stepped.{fresh_more, put_of, work_more}
use Rattle.pt_update.proofs.moving.move_to.Goals as goal

pub take_out-requires-clause-spot : goal.take_out-requires-clause-spot
take_out-requires-clause-spot g c =
    subst (IsSpotOf c.args.def.now) (sym c.spot_of-from.ensures) (spot_in c.args.session.now.next c.args.def.now c.args.row.now c.requires.valid c.requires.sound)

pub returns-in_err-take_out-clause-moves : goal.returns-in_err-take_out-clause-moves
returns-in_err-take_out-clause-moves g c tells map is parts before updating holds is_next differ =
    let p = err_from_is_err_and c.from_residual.result c.from_residual.ensures.1 in
    at_err (λ r. Moves c.args.session.now.next c.args.def.now before (with_moved c.args.def.now c.args.number updating c.args.row.now c.args.cells) (record c.args.work.now { books = c.take_out.new.books }) r)
    c.from_residual.result p.0 (halt.Stopped c.in_err-take_out.field-0.0) p.1 p.2 tt

pub returns-in_err-load-clause-moves : goal.returns-in_err-load-clause-moves
returns-in_err-load-clause-moves g c tells map is parts before updating holds is_next differ =
    let p = err_from_is_err_and c.from_residual-in_err-load.result c.from_residual-in_err-load.ensures.1 in
    at_err (λ r. Moves c.args.session.now.next c.args.def.now before (with_moved c.args.def.now c.args.number updating c.args.row.now c.args.cells) (record c.args.work.now { books = c.load.new.books }) r)
    c.from_residual-in_err-load.result p.0 (halt.Stopped c.in_err-load.field-0.0) p.1 p.2 tt

pub returns-in_err-add_moved-clause-moves : goal.returns-in_err-add_moved-clause-moves
returns-in_err-add_moved-clause-moves g c tells map is parts before updating holds is_next differ =
    let p = err_from_is_err_and c.from_residual-in_err-add_moved.result c.from_residual-in_err-add_moved.ensures.1 in
    let next = c.args.session.now.next in
    let def = c.args.def.now in
    let row = c.args.row.now in
    let from = c.spot_of-from.result in
    let stood : place_of def row.cells ≡ Some from = stands_at next def row c.requires.sound ∙ ap (λ (s : Spot). Some s) (sym c.spot_of-from.ensures) in
    let mid : Work = record c.args.work.now { books = c.load.new.books } in
    let moving = is_next.moving in
    let taken_out = λ (keyed : is_keyed def ≡ true). c.in_ok-take_out.ensures.books tells map is before updating.rows row.cells holds moving.sound.unique moving.sound.rising is_next.there stood keyed (moving.books keyed) in
    let books = λ (keyed : is_keyed def ≡ true). c.in_ok-load.ensures.books tells map (c.in_ok-take_out.ensures.looks tells map is).stands before (others row.serial updating.rows) holds
    (others_unique def row.serial updating.rows moving.sound.unique) (others_rise row.serial updating.rows moving.sound.rising) (taken_out keyed) in
    at_err (λ r. Moves next def before (with_moved def c.args.number updating row c.args.cells) c.add_moved.new.work r) c.from_residual-in_err-add_moved.result p.0 (of_fault c.in_err-add_moved.field-0.0) p.1 p.2
    (refused_moves next def parts before updating c.args.work.now row is_next c.args.number c.requires.valid c.args.cells from c.args.to stood c.requires.placed differ mid refl refl books c.add_moved.new.work c.in_err-add_moved.field-0.0
    c.in_err-add_moved.ensures)

pub returns-clause-moves : goal.returns-clause-moves
returns-clause-moves g c tells map is parts before updating holds is_next differ =
    let next = c.args.session.now.next in
    let def = c.args.def.now in
    let row = c.args.row.now in
    let from = c.spot_of-from.result in
    let stood : place_of def row.cells ≡ Some from = stands_at next def row c.requires.sound ∙ ap (λ (s : Spot). Some s) (sym c.spot_of-from.ensures) in
    let mid : Work = record c.args.work.now { books = c.load.new.books } in
    let moving = is_next.moving in
    let taken_out = λ (keyed : is_keyed def ≡ true). c.in_ok-take_out.ensures.books tells map is before updating.rows row.cells holds moving.sound.unique moving.sound.rising is_next.there stood keyed (moving.books keyed) in
    let books = λ (keyed : is_keyed def ≡ true). c.in_ok-load.ensures.books tells map (c.in_ok-take_out.ensures.looks tells map is).stands before (others row.serial updating.rows) holds
    (others_unique def row.serial updating.rows moving.sound.unique) (others_rise row.serial updating.rows moving.sound.rising) (taken_out keyed) in
    added_moves next def parts before updating c.args.work.now row is_next c.args.number c.requires.valid c.args.cells from c.args.to stood c.requires.placed differ mid refl refl books c.add_moved.new.work c.in_ok-add_moved.ensures

pub returns-clause-work : goal.returns-clause-work
returns-clause-work g c w =
    let mid : Work = record c.args.work.now { books = c.load.new.books } in
    let row : Row = record { serial = c.args.row.now.serial; cells = c.args.cells } in
    let def = c.args.def.now in
    let next = c.args.session.now.next in
    work_more def mid c.add_moved.new.work c.spot_of-from.result c.args.to row c.in_ok-add_moved.ensures.deletes c.in_ok-add_moved.ensures.puts
    (subst (IsSpotOf def) (sym c.spot_of-from.ensures) (spot_in next def c.args.row.now c.requires.valid c.requires.sound))
    (put_of next def c.args.row.now c.args.to c.args.cells c.requires.sound c.requires.open.most c.requires.placed) (record { deletes = w.deletes; puts = w.puts; many = w.many })

pub returns-clause-fresh : goal.returns-clause-fresh
returns-clause-fresh g c serial apart fresh =
    let mid : Work = record c.args.work.now { books = c.load.new.books } in
    let row : Row = record { serial = c.args.row.now.serial; cells = c.args.cells } in
    fresh_more c.args.def.now mid c.add_moved.new.work c.spot_of-from.result c.args.to row c.in_ok-add_moved.ensures.deletes c.in_ok-add_moved.ensures.puts serial apart (record { undeleted = fresh.undeleted; unput = fresh.unput })

pub load-requires-clause-spot : goal.load-requires-clause-spot
load-requires-clause-spot g c = placed_spot c.args.def.now c.requires.valid c.args.cells c.args.to c.requires.placed.placed

pub returns-in_err-load-clause-looks : goal.returns-in_err-load-clause-looks
returns-in_err-load-clause-looks g c tells map is =
    let first = c.in_ok-take_out.ensures.looks tells map is in
    look_then c.args.session.now.store map _ _ _ first (c.in_err-load.ensures.looks tells map first.stands)

pub returns-in_err-load-clause-bad : goal.returns-in_err-load-clause-bad
returns-in_err-load-clause-bad g c =
    let p = err_from_is_err_and c.from_residual-in_err-load.result c.from_residual-in_err-load.ensures.1 in
    at_err
    (λ r. IfBad (stop_of r) (λ name place. g.H.Host.tells → (map : FileList) → IsStore c.args.session.now.store map (g.H.Host.world c.args.host.now) → IsOver c.args.session.now (by_name map) → Bad (by_name map) name place))
    c.from_residual-in_err-load.result p.0 (halt.Stopped c.in_err-load.field-0.0) p.1 p.2
    (later_bad (halt.Stopped c.in_err-load.field-0.0) c.args.session.now (g.H.Host.world c.args.host.now) (g.H.Host.world c.take_out.new.host) (λ tells map is. (c.in_ok-take_out.ensures.looks tells map is).stands) c.in_err-load.ensures.bad)

pub returns-in_err-add_moved-clause-looks : goal.returns-in_err-add_moved-clause-looks
returns-in_err-add_moved-clause-looks g c tells map is =
    let first = c.in_ok-take_out.ensures.looks tells map is in
    look_then c.args.session.now.store map _ _ _ first (c.in_ok-load.ensures.looks tells map first.stands)

pub returns-clause-looks : goal.returns-clause-looks
returns-clause-looks g c tells map is =
    let first = c.in_ok-take_out.ensures.looks tells map is in
    look_then c.args.session.now.store map _ _ _ first (c.in_ok-load.ensures.looks tells map first.stands)
