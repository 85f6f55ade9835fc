use Rattle.std.proofs.Common.{◌≡◌, ◌∙◌, None, Some, ap, ap₂, rules, subst, sym}
use Rattle.pt_checks.specs.Named.{bad_parts}
use Rattle.pt_checks.specs.Queries.{bad_tail}
use Rattle.pt_checks.specs.Wanted.{candidates}
use Rattle.pt_db.specs.Lookup.{filled, table_of}
use Rattle.pt_db.specs.Sound.{IsSound}
use Rattle.pt_db.proofs.Sounds.{sound_table}
use Rattle.pt_flat.specs.Delete.{without_rows}
use Rattle.pt_flat.proofs.Renewing.{deleted_after, deleted_sound}
use Rattle.pt_flat.proofs.Taken.{rows_fit}
use Rattle.pt_flat.proofs.deleting.delete.Goals as goal

pub candidates-requires-clause-valid : goal.candidates-requires-clause-valid
candidates-requires-clause-valid c =
    let at : table_of c.args.db.now c.args.name.now ≡ Some c.in-Some.table.now = search rules in
    (sound_table c.args.db.now c.requires c.args.name.now c.in-Some.table.now at).valid

pub candidates-requires-clause-fitting : goal.candidates-requires-clause-fitting
candidates-requires-clause-fitting c =
    let at : table_of c.args.db.now c.args.name.now ≡ Some c.in-Some.table.now = search rules in
    rw c.items-rows.ensures (rows_fit c.args.db.now c.args.name.now c.in-Some.table.now c.requires at)

pub returns-clause-after : goal.returns-clause-after
returns-clause-after c =
    let at : table_of c.args.db.now c.args.name.now ≡ Some c.in-Some.table.now = search rules in
    let named : bad_parts c.in-Some.table.now.def c.args.name.now c.args.parts.now ≡ None = search rules in
    let checked : bad_tail c.in-Some.table.now.def c.args.name.now c.args.tail.now ≡ None = search rules in
    let wanted : c.in_ok-taken.taken ≡ candidates c.in-Some.table.now.def c.args.parts.now c.args.tail.now c.in-Some.table.now.rows =
    c.in_ok-taken.ensures ∙ ap (candidates c.in-Some.table.now.def c.args.parts.now c.args.tail.now) c.items-rows.ensures in
    let left : c.in_ok-rows.rows ≡ without_rows c.in_ok-taken.taken c.in-Some.table.now.rows = c.in_ok-rows.ensures ∙ ap₂ without_rows c.items.ensures c.items-rows.ensures in
    c.replace_rows.ensures
    ∙ deleted_after c.args.db.now c.args.name.now c.in-Some.table.now c.requires at c.args.parts.now c.args.tail.now c.in_ok-taken.taken c.in_ok-rows.rows named checked wanted left

pub returns-clause-sound : goal.returns-clause-sound
returns-clause-sound c =
    let at : table_of c.args.db.now c.args.name.now ≡ Some c.in-Some.table.now = search rules in
    let left : c.in_ok-rows.rows ≡ without_rows c.in_ok-taken.taken c.in-Some.table.now.rows = c.in_ok-rows.ensures ∙ ap₂ without_rows c.items.ensures c.items-rows.ensures in
    subst IsSound (sym (c.replace_rows.ensures ∙ ap (λ rows. filled c.args.db.now c.args.name.now rows c.args.db.now.next) left))
    (deleted_sound c.args.db.now c.args.name.now c.in-Some.table.now c.requires at c.in_ok-taken.taken)
