use Rattle.std.proofs.Common.{◌≡◌, ◌∙◌, Some, subst, sym, rules}
use Rattle.std.specs.Result.{IfOk}
use Rattle.pt_db.specs.Lookup.{table_of}
use Rattle.pt_db.proofs.Sounds.{sound_table}
use Rattle.pt_flat.specs.Growth.{IsCounted, IsGrown, IsSoundFilling}
use Rattle.pt_flat.specs.Insert.{unfilled}
use Rattle.pt_flat.proofs.Growing.{end_all, start_counted, start_sound}
use Rattle.pt_flat.proofs.inserting.inserted.Goals as goal

pub fill-requires-clause-valid : goal.fill-requires-clause-valid
fill-requires-clause-valid c =
    let at : table_of c.args.db.now c.args.new.now.table ≡ Some c.in-Some.table.now = search rules in
    (sound_table c.args.db.now c.requires c.args.new.now.table c.in-Some.table.now at).valid

pub fill-requires-clause-sound : goal.fill-requires-clause-sound
fill-requires-clause-sound c =
    let at : table_of c.args.db.now c.args.new.now.table ≡ Some c.in-Some.table.now = search rules in
    let copied : c.in_ok-copy_rows.field-0 ≡ c.in-Some.table.now.rows = c.in_ok-copy_rows.ensures ∙ c.items.ensures in
    subst (λ rows. IsSoundFilling c.in-Some.table.now.def (unfilled rows c.args.db.now.next)) (sym copied)
    (start_sound c.args.db.now c.args.new.now.table c.in-Some.table.now c.requires at)

pub fill-requires-clause-counted : goal.fill-requires-clause-counted
fill-requires-clause-counted c =
    let at : table_of c.args.db.now c.args.new.now.table ≡ Some c.in-Some.table.now = search rules in
    let copied : c.in_ok-copy_rows.field-0 ≡ c.in-Some.table.now.rows = c.in_ok-copy_rows.ensures ∙ c.items.ensures in
    subst (λ rows. IsCounted 1 (unfilled rows c.args.db.now.next)) (sym copied) (start_counted c.args.db.now c.args.new.now.table c.in-Some.table.now c.requires at)

pub returns-clause-sound : goal.returns-clause-sound
returns-clause-sound c =
    let at : table_of c.args.db.now c.args.new.now.table ≡ Some c.in-Some.table.now = search rules in
    let copied : c.in_ok-copy_rows.field-0 ≡ c.in-Some.table.now.rows = c.in_ok-copy_rows.ensures ∙ c.items.ensures in
    end_all c.args.db.now c.args.new.now.table c.in-Some.table.now c.fill.result c.requires at c.fill.ensures.sound
    (subst (λ rows. IfOk c.fill.result (IsGrown (unfilled rows c.args.db.now.next))) copied c.fill.ensures.grown)
