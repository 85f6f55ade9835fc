use Rattle.std.proofs.Common.{map as map_of, ap, refl, subst, sym, ◌∙◌}
use Rattle.std.specs.List.{All}
use Rattle.std.specs.Option.{option_copied}
use Rattle.std.proofs.lemmas.Result.{err_from_is_err_and}
use Rattle.pt_db.specs.Sound.{IsSoundRow}
use Rattle.pt_store.specs.declared.stop.Stop.TheVariants.{NoMemory}
use Rattle.pt_candidates.proofs.Taken.{open_valid}
use Rattle.pt_books.specs.declared.halt.Halt.TheVariants as halt
use Rattle.pt_books.proofs.Exits.{at_err}
use Rattle.pt_update.specs.Deletes.{Deletes}
use Rattle.pt_update.proofs.Meanings.{absent_deletes, deleting_change, made_deletes, refused_deletes, some_is}
use Rattle.pt_update.specs.Changes.{delete_of}
use Rattle.pt_update.proofs.deleting.deleted.Goals as goal

pub returns-in_default-clause-deletes : goal.returns-in_default-clause-deletes
returns-in_default-clause-deletes g c tells map is db stands =
    absent_deletes c.args.session.now map db c.requires.open stands c.args.table.now c.args.parts.now c.args.tail.now (sym c.table.ensures ∙ ap (λ o. option_copied o) c.in_default.is)

pub returns-in-Some-refusal_of-clause-deletes : goal.returns-in-Some-refusal_of-clause-deletes
returns-in-Some-refusal_of-clause-deletes g c tells map is db stands =
    refused_deletes c.args.session.now map db c.requires.open stands c.args.table.now c.args.parts.now c.args.tail.now c.in-Some.def.now (sym c.table.ensures ∙ ap (λ o. option_copied o) c.in-Some.is)
    c.in-Some-refusal_of.refusal (sym c.in-Some-refusal_of.ensures.refusal)

pub returns-in_err-taken-clause-deletes : goal.returns-in_err-taken-clause-deletes
returns-in_err-taken-clause-deletes g c tells map is db stands =
    let p = err_from_is_err_and c.from_residual.result c.from_residual.ensures.1 in
    at_err (λ r. Deletes db c.args.table.now c.args.parts.now c.args.tail.now r) c.from_residual.result p.0 (halt.Stopped c.in_err-taken.field-0.0) p.1 p.2 tt

pub returns-in_err-deletes-clause-deletes : goal.returns-in_err-deletes-clause-deletes
returns-in_err-deletes-clause-deletes g c tells map is db stands =
    let p = err_from_is_err_and c.from_residual-in_err-deletes.result c.from_residual-in_err-deletes.ensures.1 in
    at_err (λ r. Deletes db c.args.table.now c.args.parts.now c.args.tail.now r) c.from_residual-in_err-deletes.result p.0 (halt.Stopped NoMemory) p.1 p.2 tt

pub deletes_of-requires-clause-sound : goal.deletes_of-requires-clause-sound
deletes_of-requires-clause-sound g c =
    let next = c.args.session.now.next in
    (next, subst (All (IsSoundRow next c.in-Some.def.now)) (sym c.items.ensures) c.in_ok-taken.ensures.sound)

pub returns-clause-deletes : goal.returns-clause-deletes
returns-clause-deletes g c tells map is db stands =
    let some = sym c.table.ensures ∙ ap (λ o. option_copied o) c.in-Some.is in
    made_deletes c.args.session.now map db c.requires.open stands c.args.table.now c.args.parts.now c.args.tail.now c.in-Some.def.now some (sym c.in_default-refusal_of.ensures.refusal) c.in_ok-taken.taken
    (c.in_ok-taken.ensures.rows tells map is) _
    (record { table = refl; deletes = c.in_ok-deletes.ensures ∙ ap (λ rows. map_of (delete_of c.in-Some.def.now) rows) c.items.ensures; puts = c.new.ensures; next_is = c.next_serial.ensures })

pub returns-clause-change : goal.returns-clause-change
returns-clause-change g c =
    let def = c.in-Some.def.now in
    let some = sym c.table.ensures ∙ ap (λ o. option_copied o) c.in-Some.is in
    let valid = open_valid c.args.session.now c.args.table.now def c.requires.open some in
    some_is c.args.session.now c.args.table.now def some _
    (deleting_change c.args.table.now c.args.session.now.next def c.in_ok-taken.taken _
    (record { table = refl; deletes = c.in_ok-deletes.ensures ∙ ap (λ rows. map_of (delete_of def) rows) c.items.ensures; puts = c.new.ensures; next_is = c.next_serial.ensures })
    valid c.in_ok-taken.ensures.sound c.requires.open.some c.requires.open.most)
