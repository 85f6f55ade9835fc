use Rattle.std.proofs.Common.{Err, refl, subst, sym, ◌∙◌}
use Rattle.std.proofs.lemmas.Result.{err_from_is_err_and}
use Rattle.pt_host.specs.Listed.{FileList, by_name}
use Rattle.pt_store.specs.Stops.{IfBad, IsCounted}
use Rattle.pt_store.specs.Store.{IsStore}
use Rattle.pt_store.proofs.Steps.{look_then, no_look}
use Rattle.pt_flat.specs.Update.{unchanged, update_rows}
use Rattle.pt_holds.specs.Bad.{Bad}
use Rattle.pt_session.specs.Session.{IsOver}
use Rattle.pt_books.specs.Halts.{stop_of}
use Rattle.pt_books.proofs.Exits.{at_err, later_bad}
use Rattle.pt_update.specs.Work.{Moves}
use Rattle.pt_update.proofs.ModelRows.{next_is, updated_all, updated_halts, updated_more, updated_none}
use Rattle.pt_update.proofs.moving.move_rows.Goals as goal

pub loop-at-init : goal.loop-at-init
loop-at-init g c = record {
  looks = λ tells map is. no_look c.args.session.now.store map (g.H.Host.world c.args.host.now) is;
  moves = λ tells map is before holds are fresh moving. updated_none c.args.session.now.next c.args.def.now c.args.parts.now c.args.assigns.now before c.args.rows.now are c.args.work.now fresh moving;
  work = λ w. w;
  counts = refl;
}

pub move_row-requires-clause-stands : goal.move_row-requires-clause-stands
move_row-requires-clause-stands g c tells =
    let m = c.requires.stands tells in (m.0, (c.loop-at.invariant.looks tells m.0 m.1).stands)

pub loop-at-preserved : goal.loop-at-preserved
loop-at-preserved g c = record {
  looks = λ tells map is.
      let first = c.loop-at.invariant.looks tells map is in
      look_then c.args.session.now.store map _ _ _ first (c.in_ok-move_row.ensures.looks tells map first.stands);
  moves = λ tells map is before holds are fresh moving.
      let first = c.loop-at.invariant.looks tells map is in
      let had = c.loop-at.invariant.moves tells map is before holds are fresh moving in
      let next = c.args.session.now.next in
      let def = c.args.def.now in
      updated_more next def c.args.parts.now c.args.assigns.now before c.args.rows.now are c.loop-at.work c.move_row.new.work c.loop-at.at c.index-rows-at.result c.loop-at-test.true (sym c.index-rows-at.is) had
      (c.in_ok-move_row.ensures.moves tells map first.stands before had.updating holds
      (next_is next def c.args.parts.now c.args.assigns.now before c.args.rows.now are c.loop-at.work c.move_row.new.work c.loop-at.at c.index-rows-at.result c.loop-at-test.true (sym c.index-rows-at.is) had))
      c.in_ok-move_row.ensures.fresh;
  work = λ w. c.in_ok-move_row.ensures.work (c.loop-at.invariant.work w);
  counts = c.in_ok-move_row.ensures.counts ∙ c.loop-at.invariant.counts;
}

pub returns-in_err-move_row-clause-looks : goal.returns-in_err-move_row-clause-looks
returns-in_err-move_row-clause-looks g c tells map is =
    let first = c.loop-at.invariant.looks tells map is in
    look_then c.args.session.now.store map _ _ _ first (c.in_err-move_row.ensures.looks tells map first.stands)

pub returns-in_err-move_row-clause-moves : goal.returns-in_err-move_row-clause-moves
returns-in_err-move_row-clause-moves g c tells map is before holds are fresh moving =
    let p = err_from_is_err_and c.from_residual-in_err-move_row.result c.from_residual-in_err-move_row.ensures.1 in
    let first = c.loop-at.invariant.looks tells map is in
    let had = c.loop-at.invariant.moves tells map is before holds are fresh moving in
    let next = c.args.session.now.next in
    let def = c.args.def.now in
    at_err (λ r. Moves next def before (update_rows def c.args.parts.now c.args.assigns.now 1 (unchanged before) c.args.rows.now) c.move_row.new.work r)
    c.from_residual-in_err-move_row.result p.0 c.in_err-move_row.field-0.0 p.1 p.2
    (updated_halts next def c.args.parts.now c.args.assigns.now before c.args.rows.now are c.loop-at.work c.move_row.new.work c.loop-at.at c.index-rows-at.result c.loop-at-test.true (sym c.index-rows-at.is) had
    c.in_err-move_row.field-0.0
    (c.in_err-move_row.ensures.moves tells map first.stands before had.updating holds
    (next_is next def c.args.parts.now c.args.assigns.now before c.args.rows.now are c.loop-at.work c.move_row.new.work c.loop-at.at c.index-rows-at.result c.loop-at-test.true (sym c.index-rows-at.is) had)))

pub returns-in_err-move_row-clause-bad : goal.returns-in_err-move_row-clause-bad
returns-in_err-move_row-clause-bad g c =
    let p = err_from_is_err_and c.from_residual-in_err-move_row.result c.from_residual-in_err-move_row.ensures.1 in
    at_err
    (λ r. IfBad (stop_of r) (λ name place. g.H.Host.tells → (map : FileList) → IsStore c.args.session.now.store map (g.H.Host.world c.args.host.now) → IsOver c.args.session.now (by_name map) → Bad (by_name map) name place))
    c.from_residual-in_err-move_row.result p.0 c.in_err-move_row.field-0.0 p.1 p.2
    (later_bad c.in_err-move_row.field-0.0 c.args.session.now (g.H.Host.world c.args.host.now) (g.H.Host.world c.loop-at.host) (λ tells map is. (c.loop-at.invariant.looks tells map is).stands) c.in_err-move_row.ensures.bad)

pub returns-in_err-move_row-clause-counts : goal.returns-in_err-move_row-clause-counts
returns-in_err-move_row-clause-counts g c =
    let p = err_from_is_err_and c.from_residual-in_err-move_row.result c.from_residual-in_err-move_row.ensures.1 in
    at_err (λ r. IsCounted (g.H.Host.counts c.args.host.now) (g.H.Host.counts c.move_row.new.host) (stop_of r)) c.from_residual-in_err-move_row.result p.0 c.in_err-move_row.field-0.0 p.1 p.2
    (subst (λ n. IsCounted n (g.H.Host.counts c.move_row.new.host) (stop_of {T = Unit {0}} (Err c.in_err-move_row.field-0.0))) c.loop-at.invariant.counts c.in_err-move_row.ensures.counts)

pub returns-clause-looks : goal.returns-clause-looks
returns-clause-looks g c = c.loop-at.invariant.looks

pub returns-clause-moves : goal.returns-clause-moves
returns-clause-moves g c tells map is before holds are fresh moving =
    updated_all c.args.session.now.next c.args.def.now c.args.parts.now c.args.assigns.now before c.args.rows.now are c.loop-at.work c.loop-at.at c.loop-at-test.false (c.loop-at.invariant.moves tells map is before holds are fresh moving)
