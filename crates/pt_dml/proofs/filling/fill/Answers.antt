use Rattle.std.proofs.Common.{Err, ◌+◌, refl, subst, sym, ◌∙◌}
use Rattle.std.proofs.lemmas.Result.{err_from_is_err_and}
use Rattle.pt_host.specs.Listed.{FileList, by_name}
use Rattle.pt_store.specs.Stops.{IfBad, IsCounted}
use Rattle.pt_store.specs.Store.{IsStore}
use Rattle.pt_store.proofs.Steps.{look_then, no_look}
use Rattle.pt_flat.specs.Insert.{fill}
use Rattle.pt_holds.specs.Bad.{Bad}
use Rattle.pt_session.specs.Session.{IsOver}
use Rattle.pt_books.specs.Halts.{stop_of}
use Rattle.pt_dml.specs.Work.{Fills, filling_of}
use Rattle.pt_books.proofs.Exits.{at_err, later_bad}
use Rattle.pt_dml.proofs.Models.{filled_all, filled_halts, filled_more, filled_none}
use Rattle.pt_dml.proofs.filling.fill.Goals as goal

pub loop-at-init : goal.loop-at-init
loop-at-init g c = record {
  looks = λ tells map is. no_look c.args.session.now.store map (g.H.Host.world c.args.host.now) is;
  fills = λ tells map is before holds on. filled_none c.args.mode c.args.def.now c.args.new.now before c.args.rows.now c.args.work.now on;
  work = record { work = c.requires.work; first = refl };
  counts = refl;
}

pub fill_row-requires-clause-stands : goal.fill_row-requires-clause-stands
fill_row-requires-clause-stands g c tells =
    let m = c.requires.stands tells in (m.0, (c.loop-at.invariant.looks tells m.0 m.1).stands)

pub fill_row-requires-clause-work : goal.fill_row-requires-clause-work
fill_row-requires-clause-work g c = c.loop-at.invariant.work.work

pub loop-at-preserved : goal.loop-at-preserved
loop-at-preserved g c = record {
  looks = λ tells map is.
      let first = c.loop-at.invariant.looks tells map is in
      look_then c.args.session.now.store map _ _ _ first (c.in_ok-fill_row.ensures.looks tells map first.stands);
  fills = λ tells map is before holds on.
      let first = c.loop-at.invariant.looks tells map is in
      let had = c.loop-at.invariant.fills tells map is before holds on in
      filled_more c.args.mode c.args.def.now c.args.new.now before c.args.rows.now c.args.work.now c.loop-at.work c.fill_row.new.work c.loop-at.at c.index-rows-at.result c.loop-at-test.true (sym c.index-rows-at.is) had
      (c.in_ok-fill_row.ensures.fills tells map first.stands before holds had.on);
  work = record { work = c.in_ok-fill_row.ensures.work.work; first = c.in_ok-fill_row.ensures.work.first ∙ c.loop-at.invariant.work.first };
  counts = c.in_ok-fill_row.ensures.counts ∙ c.loop-at.invariant.counts;
}

pub returns-in_err-fill_row-clause-looks : goal.returns-in_err-fill_row-clause-looks
returns-in_err-fill_row-clause-looks g c tells map is =
    let first = c.loop-at.invariant.looks tells map is in
    look_then c.args.session.now.store map _ _ _ first (c.in_err-fill_row.ensures.looks tells map first.stands)

pub returns-in_err-fill_row-clause-fills : goal.returns-in_err-fill_row-clause-fills
returns-in_err-fill_row-clause-fills g c tells map is before holds on =
    let p = err_from_is_err_and c.from_residual.result c.from_residual.ensures.1 in
    let first = c.loop-at.invariant.looks tells map is in
    let had = c.loop-at.invariant.fills tells map is before holds on in
    at_err (λ r. Fills c.args.def.now before (fill c.args.mode c.args.def.now c.args.new.now 1 (filling_of before c.args.work.now) c.args.rows.now) c.fill_row.new.work r)
    c.from_residual.result p.0 c.in_err-fill_row.field-0.0 p.1 p.2
    (filled_halts c.args.mode c.args.def.now c.args.new.now before c.args.rows.now c.args.work.now c.loop-at.work c.fill_row.new.work c.loop-at.at c.index-rows-at.result c.loop-at-test.true (sym c.index-rows-at.is) had
    c.in_err-fill_row.field-0.0 (c.in_err-fill_row.ensures.fills tells map first.stands before holds had.on))

pub returns-in_err-fill_row-clause-bad : goal.returns-in_err-fill_row-clause-bad
returns-in_err-fill_row-clause-bad g c =
    let p = err_from_is_err_and c.from_residual.result c.from_residual.ensures.1 in
    at_err
    (λ r. IfBad (stop_of r) (λ name place. g.H.Host.tells → (map : FileList) → IsStore c.args.session.now.store map (g.H.Host.world c.args.host.now) → IsOver c.args.session.now (by_name map) → Bad (by_name map) name place))
    c.from_residual.result p.0 c.in_err-fill_row.field-0.0 p.1 p.2
    (later_bad c.in_err-fill_row.field-0.0 c.args.session.now (g.H.Host.world c.args.host.now) (g.H.Host.world c.loop-at.host) (λ tells map is. (c.loop-at.invariant.looks tells map is).stands) c.in_err-fill_row.ensures.bad)

pub returns-in_err-fill_row-clause-counts : goal.returns-in_err-fill_row-clause-counts
returns-in_err-fill_row-clause-counts g c =
    let p = err_from_is_err_and c.from_residual.result c.from_residual.ensures.1 in
    at_err (λ r. IsCounted (g.H.Host.counts c.args.host.now) (g.H.Host.counts c.fill_row.new.host) (stop_of r)) c.from_residual.result p.0 c.in_err-fill_row.field-0.0 p.1 p.2
    (subst (λ n. IsCounted n (g.H.Host.counts c.fill_row.new.host) (stop_of {T = Unit {0}} (Err c.in_err-fill_row.field-0.0))) c.loop-at.invariant.counts c.in_err-fill_row.ensures.counts)

pub returns-clause-looks : goal.returns-clause-looks
returns-clause-looks g c = c.loop-at.invariant.looks

pub returns-clause-fills : goal.returns-clause-fills
returns-clause-fills g c tells map is before holds on =
    filled_all c.args.mode c.args.def.now c.args.new.now before c.args.rows.now c.args.work.now c.loop-at.work c.loop-at.at c.loop-at-test.false (c.loop-at.invariant.fills tells map is before holds on)

pub returns-clause-work : goal.returns-clause-work
returns-clause-work g c = record { number = c.loop-at.at + 1; done = c.loop-at.invariant.work.work; begun = c.loop-at.invariant.work.first }
