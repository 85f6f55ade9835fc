use Rattle.std.proofs.Common.{Err, Ok, List, length, ap, subst, sym, ◌∙◌}
use Rattle.std.specs.Option.{IsSomeAnd, option_copied}
use Rattle.std.proofs.lemmas.Result.{err_from_is_err_and}
use Rattle.pt_host.specs.Listed.{FileList, by_name}
use Rattle.pt_ast.specs.declared.database.Row.{Row}
use Rattle.pt_holds.specs.RowChanges.{IsRowChange}
use Rattle.pt_holds.specs.declared.change.RowChange.{RowChange}
use Rattle.pt_candidates.proofs.Taken.{open_valid}
use Rattle.pt_books.specs.declared.halt.Halt.TheVariants as halt
use Rattle.pt_store.specs.Stops.{IfBad}
use Rattle.pt_store.specs.Store.{IsStore}
use Rattle.pt_store.proofs.Steps.{look_then}
use Rattle.pt_holds.specs.Bad.{Bad}
use Rattle.pt_session.specs.Session.{IsOver, def_of}
use Rattle.pt_books.specs.Halts.{stop_of}
use Rattle.pt_books.proofs.Exits.{at_err, later_bad}
use Rattle.pt_update.specs.Updates.{Updates}
use Rattle.pt_update.specs.Work.{change_of}
use Rattle.pt_update.proofs.Meanings.{Told, absent_updates, halted_updates, moved_updates, refused_updates, some_is, start_works, updated_as}
use Rattle.pt_update.proofs.RowEnds.{updates_change}
use Rattle.pt_update.proofs.updating.updated.Goals as goal

pub returns-in_default-clause-updates : goal.returns-in_default-clause-updates
returns-in_default-clause-updates g c tells map is db stands =
    absent_updates c.args.session.now map db c.requires.open stands c.args.table.now c.args.parts.now c.args.assigns.now c.args.tail.now (sym c.table.ensures ∙ ap (λ o. option_copied o) c.in_default.is)

pub returns-in-Some-refusal_of-clause-updates : goal.returns-in-Some-refusal_of-clause-updates
returns-in-Some-refusal_of-clause-updates g c tells map is db stands =
    refused_updates c.args.session.now map db c.requires.open stands c.args.table.now c.args.parts.now c.args.assigns.now c.args.tail.now c.in-Some.def.now (sym c.table.ensures ∙ ap (λ o. option_copied o) c.in-Some.is)
    c.in-Some-refusal_of.refusal (sym c.in-Some-refusal_of.ensures.refusal)

pub returns-in_err-taken-clause-updates : goal.returns-in_err-taken-clause-updates
returns-in_err-taken-clause-updates g c tells map is db stands =
    let p = err_from_is_err_and c.from_residual.result c.from_residual.ensures.1 in
    at_err (λ r. Updates db c.args.table.now c.args.parts.now c.args.assigns.now c.args.tail.now r) c.from_residual.result p.0 (halt.Stopped c.in_err-taken.field-0.0) p.1 p.2 tt

pub returns-in_err-move_rows-clause-updates : goal.returns-in_err-move_rows-clause-updates
returns-in_err-move_rows-clause-updates g c tells map is db stands =
    let p = err_from_is_err_and c.from_residual-in_err-move_rows.result c.from_residual-in_err-move_rows.ensures.1 in
    let some = sym c.table.ensures ∙ ap (λ o. option_copied o) c.in-Some.is in
    let def = c.in-Some.def.now in
    let name = c.args.table.now in
    let parts = c.args.parts.now in
    let assigns = c.args.assigns.now in
    let next = c.args.session.now.next in
    at_err (λ r. Updates db name parts assigns c.args.tail.now r) c.from_residual-in_err-move_rows.result p.0 c.in_err-move_rows.field-0.0 p.1 p.2
    (halted_updates c.args.session.now map db c.requires.open stands name parts assigns c.args.tail.now def some (sym c.in_default-refusal_of.ensures.refusal) c.in_ok-taken.taken
    (c.in_ok-taken.ensures.rows tells map is) c.new-work.result c.new-work.ensures.books c.new-work.ensures.deletes c.new-work.ensures.puts c.move_rows.new.work c.in_err-move_rows.field-0.0
    (subst (λ (rows : List Row). Told map name next def parts assigns rows c.new-work.result c.move_rows.new.work (Err c.in_err-move_rows.field-0.0)) c.items-rows.ensures
    (λ before holds are fresh moving. c.in_err-move_rows.ensures.moves tells map (c.in_ok-taken.ensures.looks tells map is).stands before holds are fresh moving)))

pub returns-clause-updates : goal.returns-clause-updates
returns-clause-updates g c tells map is db stands =
    let some = sym c.table.ensures ∙ ap (λ o. option_copied o) c.in-Some.is in
    let def = c.in-Some.def.now in
    let name = c.args.table.now in
    let parts = c.args.parts.now in
    let assigns = c.args.assigns.now in
    let next = c.args.session.now.next in
    updated_as db name parts assigns c.args.tail.now _ (change_of name next c.move_rows.new.work) (length c.in_ok-taken.taken) c.change_of.ensures (ap (λ (rows : List Row). length rows) c.items-rows.ensures)
    (moved_updates c.args.session.now map db c.requires.open stands name parts assigns c.args.tail.now def some (sym c.in_default-refusal_of.ensures.refusal) c.in_ok-taken.taken
    (c.in_ok-taken.ensures.rows tells map is) c.new-work.result c.new-work.ensures.books c.new-work.ensures.deletes c.new-work.ensures.puts c.move_rows.new.work
    (subst (λ (rows : List Row). Told map name next def parts assigns rows c.new-work.result c.move_rows.new.work (Ok c.in_ok-move_rows.field-0)) c.items-rows.ensures
    (λ before holds are fresh moving. c.in_ok-move_rows.ensures.moves tells map (c.in_ok-taken.ensures.looks tells map is).stands before holds are fresh moving))
    (c.in_ok-move_rows.ensures.work (start_works c.new-work.result c.new-work.ensures.deletes c.new-work.ensures.puts def)))

pub returns-clause-change : goal.returns-clause-change
returns-clause-change g c =
    let def = c.in-Some.def.now in
    let name = c.args.table.now in
    let some = sym c.table.ensures ∙ ap (λ o. option_copied o) c.in-Some.is in
    let valid = open_valid c.args.session.now name def c.requires.open some in
    subst (λ (change : RowChange). IsSomeAnd (def_of c.args.session.now change.table) (λ d. IsRowChange d change)) (sym c.change_of.ensures)
    (some_is c.args.session.now name def some (λ d. IsRowChange d (change_of name c.args.session.now.next c.move_rows.new.work))
    (updates_change name c.args.session.now.next def c.move_rows.new.work valid
    (c.in_ok-move_rows.ensures.work (start_works c.new-work.result c.new-work.ensures.deletes c.new-work.ensures.puts def)) c.requires.open.some c.requires.open.most))

pub returns-in_err-move_rows-clause-looks : goal.returns-in_err-move_rows-clause-looks
returns-in_err-move_rows-clause-looks g c tells map is =
    let first = c.in_ok-taken.ensures.looks tells map is in
    look_then c.args.session.now.store map _ _ _ first (c.in_err-move_rows.ensures.looks tells map first.stands)

pub returns-in_err-move_rows-clause-bad : goal.returns-in_err-move_rows-clause-bad
returns-in_err-move_rows-clause-bad g c =
    let p = err_from_is_err_and c.from_residual-in_err-move_rows.result c.from_residual-in_err-move_rows.ensures.1 in
    at_err
    (λ r. IfBad (stop_of r) (λ name place. g.H.Host.tells → (map : FileList) → IsStore c.args.session.now.store map (g.H.Host.world c.args.host.now) → IsOver c.args.session.now (by_name map) → Bad (by_name map) name place))
    c.from_residual-in_err-move_rows.result p.0 c.in_err-move_rows.field-0.0 p.1 p.2
    (later_bad c.in_err-move_rows.field-0.0 c.args.session.now (g.H.Host.world c.args.host.now) (g.H.Host.world c.candidates.new.host) (λ tells map is. (c.in_ok-taken.ensures.looks tells map is).stands) c.in_err-move_rows.ensures.bad)

pub returns-clause-looks : goal.returns-clause-looks
returns-clause-looks g c tells map is =
    let first = c.in_ok-taken.ensures.looks tells map is in
    look_then c.args.session.now.store map _ _ _ first (c.in_ok-move_rows.ensures.looks tells map first.stands)
