use Rattle.std.proofs.Common.{◌≡◌, ◌∙◌, ℕ, rules, refl, sym, subst, ap, ap₂}
use Rattle.std.specs.Prelude.{List, Some, Ok, OnOk}
use Rattle.pt_ast.specs.declared.database.Row.{Row}
use Rattle.pt_ast.specs.StorableDef.{IsStorableDef}
use Rattle.pt_place.specs.Valid.{IsValid}
use Rattle.pt_complete.proofs.Naming.{ok_then}
use Rattle.pt_db.specs.Lookup.{table_of}
use Rattle.pt_db.specs.Outcome.{Outcome, db_behind}
use Rattle.pt_altered.specs.Kept.{IsKeptOf}
use Rattle.pt_actions.specs.Dropped.{dropped_of}
use Rattle.pt_altered.specs.Actions.{drop_parts}
use Rattle.pt_altered.specs.Altered.{none_unplaced, rows_out, with_altered}
use Rattle.pt_altered.proofs.Kept.{dropped_kept}
use Rattle.pt_altered.proofs.Means.{altered_is}
use Rattle.pt_altered.proofs.dropping.drop_parts.Goals as goal

pub returns-in_ok-rows-in-Ok-clause-after : goal.returns-in_ok-rows-in-Ok-clause-after
returns-in_ok-rows-in-Ok-clause-after c =
    let db = c.args.db.now in
    let name = c.args.name.now in
    let table = c.in-Some.table.now in
    let at : table_of db name ≡ Some table = search rules in
    let made : dropped_of name c.args.names.now table.def ≡ Ok c.in-Ok.def = sym (c.in_ok-def.ensures.made ∙ ap (λ (ns : List (List ℕ)). dropped_of name ns table.def) c.items.ensures) ∙ c.in-Ok.is in
    let rows : c.in_ok-rows-in-Ok.rows ≡ rows_out (Some c.args.names.now) table.def table.rows = c.in_ok-rows-in-Ok.ensures ∙ ap₂ (λ (ns : List (List ℕ)) (own : List Row). rows_out (Some ns) table.def own) c.items-in-Ok.ensures c.items-in-Ok-2.ensures in
    let means : with_altered db name c.in-Ok.def c.in_ok-rows-in-Ok.rows ≡ drop_parts db name c.args.names.now =
    ap (λ (own : List Row). with_altered db name c.in-Ok.def own) rows ∙ sym (altered_is db name table at (dropped_of name c.args.names.now) none_unplaced (rows_out (Some c.args.names.now)) c.in-Ok.def made refl) in
    subst (λ (outcome : Outcome). OnOk c.keep.result (c.keep.new.db ≡ db_behind db outcome)) means c.keep.ensures.after

pub returns-in_ok-rows-in-Ok-clause-sound : goal.returns-in_ok-rows-in-Ok-clause-sound
returns-in_ok-rows-in-Ok-clause-sound c =
    let db = c.args.db.now in
    let name = c.args.name.now in
    let table = c.in-Some.table.now in
    let at : table_of db name ≡ Some table = search rules in
    let is : Ok c.in-Ok.def ≡ dropped_of name c.args.names.now table.def = sym c.in-Ok.is ∙ c.in_ok-def.ensures.made ∙ ap (λ (ns : List (List ℕ)). dropped_of name ns table.def) c.items.ensures in
    let rows : c.in_ok-rows-in-Ok.rows ≡ rows_out (Some c.args.names.now) table.def table.rows = c.in_ok-rows-in-Ok.ensures ∙ ap₂ (λ (ns : List (List ℕ)) (own : List Row). rows_out (Some ns) table.def own) c.items-in-Ok.ensures c.items-in-Ok-2.ensures in
    c.keep.ensures.sound c.requires
    (subst (λ (own : List Row). IsKeptOf db name c.in-Ok.def own) (sym rows)
    (dropped_kept db name table c.requires at c.in-Ok.def (ok_then c.in_ok-def.field-0 c.in-Ok.def IsStorableDef c.in-Ok.is c.in_ok-def.ensures.storable) (ok_then c.in_ok-def.field-0 c.in-Ok.def IsValid c.in-Ok.is c.in_ok-def.ensures.valid) c.args.names.now is))
