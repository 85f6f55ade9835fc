use Rattle.std.proofs.Common.{◌≡◌, ◌∙◌, None, Some, ap, rules, subst, sym}
use Rattle.std.specs.List.{All}
use Rattle.pt_checks.specs.Assigned.{bad_update}
use Rattle.pt_checks.specs.Named.{bad_parts}
use Rattle.pt_checks.specs.Wanted.{candidates}
use Rattle.pt_db.specs.Lookup.{table_of}
use Rattle.pt_db.specs.Sound.{IsSoundRow}
use Rattle.pt_db.proofs.Sounds.{sound_table}
use Rattle.pt_flat.specs.Renewal.{IsSoundUpdating}
use Rattle.pt_flat.specs.Update.{unchanged}
use Rattle.pt_flat.proofs.Renewing.{end_updating, start_updating, taken_fit, taken_sound, taken_whole, updated_gives}
use Rattle.pt_flat.proofs.Taken.{rows_fit}
use Rattle.pt_flat.proofs.updating.updated.Goals as goal

pub candidates-requires-clause-valid : goal.candidates-requires-clause-valid
candidates-requires-clause-valid c =
    let at : table_of c.args.db.now c.args.name.now ≡ Some c.in-Some.table.now = search rules in
    (sound_table c.args.db.now c.requires c.args.name.now c.in-Some.table.now at).valid

pub candidates-requires-clause-fitting : goal.candidates-requires-clause-fitting
candidates-requires-clause-fitting c =
    let at : table_of c.args.db.now c.args.name.now ≡ Some c.in-Some.table.now = search rules in
    rw c.items-rows.ensures (rows_fit c.args.db.now c.args.name.now c.in-Some.table.now c.requires at)

pub update_rows-requires-clause-valid : goal.update_rows-requires-clause-valid
update_rows-requires-clause-valid c =
    let at : table_of c.args.db.now c.args.name.now ≡ Some c.in-Some.table.now = search rules in
    (sound_table c.args.db.now c.requires c.args.name.now c.in-Some.table.now at).valid

pub update_rows-requires-clause-fitting : goal.update_rows-requires-clause-fitting
update_rows-requires-clause-fitting c =
    let at : table_of c.args.db.now c.args.name.now ≡ Some c.in-Some.table.now = search rules in
    let def = c.in-Some.table.now.def in
    let wanted : c.items.result.now ≡ candidates def c.args.parts.now c.args.tail.now c.in-Some.table.now.rows =
    c.items.ensures ∙ c.in_ok-taken.ensures ∙ ap (candidates def c.args.parts.now c.args.tail.now) c.items-rows.ensures in
    taken_fit c.args.db.now.next def c.items.result.now
    (subst (All (IsSoundRow c.args.db.now.next def)) (sym wanted) (taken_sound c.args.db.now c.args.name.now c.in-Some.table.now c.requires at c.args.parts.now c.args.tail.now))

pub update_rows-requires-clause-whole : goal.update_rows-requires-clause-whole
update_rows-requires-clause-whole c =
    let at : table_of c.args.db.now c.args.name.now ≡ Some c.in-Some.table.now = search rules in
    let def = c.in-Some.table.now.def in
    let wanted : c.items.result.now ≡ candidates def c.args.parts.now c.args.tail.now c.in-Some.table.now.rows =
    c.items.ensures ∙ c.in_ok-taken.ensures ∙ ap (candidates def c.args.parts.now c.args.tail.now) c.items-rows.ensures in
    taken_whole c.args.db.now.next def c.items.result.now
    (subst (All (IsSoundRow c.args.db.now.next def)) (sym wanted) (taken_sound c.args.db.now c.args.name.now c.in-Some.table.now c.requires at c.args.parts.now c.args.tail.now))

pub returns-clause-updated : goal.returns-clause-updated
returns-clause-updated c =
    let at : table_of c.args.db.now c.args.name.now ≡ Some c.in-Some.table.now = search rules in
    let def = c.in-Some.table.now.def in
    let named : bad_parts def c.args.name.now c.args.parts.now ≡ None = search rules in
    let checked : bad_update def c.args.name.now c.args.assigns.now c.args.tail.now ≡ None = search rules in
    let wanted : c.items.result.now ≡ candidates def c.args.parts.now c.args.tail.now c.in-Some.table.now.rows =
    c.items.ensures ∙ c.in_ok-taken.ensures ∙ ap (candidates def c.args.parts.now c.args.tail.now) c.items-rows.ensures in
    let copied : c.in_ok-copy_rows.field-0 ≡ c.in-Some.table.now.rows = c.in_ok-copy_rows.ensures ∙ c.items-rows.ensures in
    updated_gives c.args.db.now c.args.name.now c.in-Some.table.now c.requires at c.args.parts.now c.args.assigns.now c.args.tail.now c.items.result.now c.in_ok-copy_rows.field-0 c.update_rows.result
    named checked wanted copied c.update_rows.ensures.updated

pub returns-clause-sound : goal.returns-clause-sound
returns-clause-sound c =
    let at : table_of c.args.db.now c.args.name.now ≡ Some c.in-Some.table.now = search rules in
    let def = c.in-Some.table.now.def in
    let wanted : c.items.result.now ≡ candidates def c.args.parts.now c.args.tail.now c.in-Some.table.now.rows =
    c.items.ensures ∙ c.in_ok-taken.ensures ∙ ap (candidates def c.args.parts.now c.args.tail.now) c.items-rows.ensures in
    let copied : c.in_ok-copy_rows.field-0 ≡ c.in-Some.table.now.rows = c.in_ok-copy_rows.ensures ∙ c.items-rows.ensures in
    end_updating c.args.db.now c.args.name.now c.in-Some.table.now c.requires at c.update_rows.result
    (c.update_rows.ensures.sound c.args.db.now.next c.in-Some.table.now.rows
    (subst (All (IsSoundRow c.args.db.now.next def)) (sym wanted) (taken_sound c.args.db.now c.args.name.now c.in-Some.table.now c.requires at c.args.parts.now c.args.tail.now))
    (subst (λ rows. IsSoundUpdating c.args.db.now.next def c.in-Some.table.now.rows (unchanged rows)) (sym copied) (start_updating c.args.db.now c.args.name.now c.in-Some.table.now c.requires at)))
