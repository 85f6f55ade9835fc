use Rattle.std.proofs.Common.{Err, Ok, ap, subst, sym, ◌∙◌}
use Rattle.std.specs.Option.{IsSomeAnd, option_copied}
use Rattle.std.proofs.lemmas.Result.{err_from_is_err_and}
use Rattle.pt_flat.specs.Insert.{fill}
use Rattle.pt_books.specs.Halts.{of_fault}
use Rattle.pt_dml.specs.Inserts.{Inserts}
use Rattle.pt_dml.specs.Work.{Fills, IsMade, filling_of}
use Rattle.pt_dml.proofs.Ends.{absent_inserts, filled_inserts, halted_inserts, made, start_works, unchecked_inserts}
use Rattle.pt_books.proofs.Exits.{at_err}
use Rattle.pt_dml.proofs.inserting.inserted.Goals as goal

pub returns-in_default-clause-inserts : goal.returns-in_default-clause-inserts
returns-in_default-clause-inserts g c tells map is db stands =
    absent_inserts c.args.mode c.args.session.now map db c.requires.open stands c.args.new.now (sym c.table.ensures ∙ ap (λ o. option_copied o) c.in_default.is)

pub returns-in_err-targets-clause-inserts : goal.returns-in_err-targets-clause-inserts
returns-in_err-targets-clause-inserts g c tells map is db stands =
    let p = err_from_is_err_and c.from_residual.result c.from_residual.ensures.1 in
    at_err (λ r. Inserts c.args.mode db c.args.new.now r) c.from_residual.result p.0 (of_fault c.in_err-targets.field-0.0) p.1 p.2
    (unchecked_inserts c.args.mode c.args.session.now map db c.requires.open stands c.args.new.now c.in-Some.def.now (sym c.table.ensures ∙ ap (λ o. option_copied o) c.in-Some.is) c.in_err-targets.field-0.0 c.in_err-targets.ensures.gives)

pub returns-in_err-fill-clause-inserts : goal.returns-in_err-fill-clause-inserts
returns-in_err-fill-clause-inserts g c tells map is db stands =
    let p = err_from_is_err_and c.from_residual-in_err-fill.result c.from_residual-in_err-fill.ensures.1 in
    at_err (λ r. Inserts c.args.mode db c.args.new.now r) c.from_residual-in_err-fill.result p.0 c.in_err-fill.field-0.0 p.1 p.2
    (halted_inserts c.args.mode c.args.session.now map db c.requires.open stands c.args.new.now c.in-Some.def.now (sym c.table.ensures ∙ ap (λ o. option_copied o) c.in-Some.is) c.new-work.result
    (record { books = c.new-work.ensures.books; deletes = c.new-work.ensures.deletes; puts = c.new-work.ensures.puts; first = c.new-work.ensures.first ∙ c.next_serial.ensures; next = c.new-work.ensures.next ∙ c.next_serial.ensures; skipped = c.new-work.ensures.skipped })
    c.in_ok-targets.targets c.in_ok-targets.ensures.gives c.fill.new.work c.in_err-fill.field-0.0
    (λ before holds on.
    subst (λ rows. Fills c.in-Some.def.now before (fill c.args.mode c.in-Some.def.now c.args.new.now 1 (filling_of before c.new-work.result) rows) c.fill.new.work (Err c.in_err-fill.field-0.0)) c.items-rows.ensures
    (c.in_err-fill.ensures.fills tells map is before holds on)))

pub returns-clause-inserts : goal.returns-clause-inserts
returns-clause-inserts g c tells map is db stands =
    filled_inserts c.args.mode c.args.session.now map db c.requires.open stands c.args.new.now c.in-Some.def.now (sym c.table.ensures ∙ ap (λ o. option_copied o) c.in-Some.is) c.new-work.result
    (record { books = c.new-work.ensures.books; deletes = c.new-work.ensures.deletes; puts = c.new-work.ensures.puts; first = c.new-work.ensures.first ∙ c.next_serial.ensures; next = c.new-work.ensures.next ∙ c.next_serial.ensures; skipped = c.new-work.ensures.skipped })
    c.in_ok-targets.targets c.in_ok-targets.ensures.gives c.fill.new.work
    (λ before holds on.
    subst (λ rows. Fills c.in-Some.def.now before (fill c.args.mode c.in-Some.def.now c.args.new.now 1 (filling_of before c.new-work.result) rows) c.fill.new.work (Ok c.in_ok-fill.field-0)) c.items-rows.ensures
    (c.in_ok-fill.ensures.fills tells map is before holds on))

pub fill-requires-clause-work : goal.fill-requires-clause-work
fill-requires-clause-work g c =
    start_works c.in-Some.def.now c.args.session.now c.new-work.result c.requires.open
    (record { books = c.new-work.ensures.books; deletes = c.new-work.ensures.deletes; puts = c.new-work.ensures.puts; first = c.new-work.ensures.first ∙ c.next_serial.ensures; next = c.new-work.ensures.next ∙ c.next_serial.ensures; skipped = c.new-work.ensures.skipped })

pub returns-clause-work : goal.returns-clause-work
returns-clause-work g c =
    subst (λ o. IsSomeAnd o (λ def. IsMade c.args.session.now.next def c.fill.new.work)) (sym (sym c.table.ensures ∙ ap (λ o. option_copied o) c.in-Some.is))
    (made c.in-Some.def.now c.args.session.now.next c.new-work.result c.fill.new.work (c.new-work.ensures.first ∙ c.next_serial.ensures) c.in_ok-fill.ensures.work)
