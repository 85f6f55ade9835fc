use Rattle.std.proofs.Common.{◌≡◌, ◌∙◌, ℕ, rules, refl, sym, subst, ap, ap₂}
use Rattle.std.specs.Prelude.{List, Some, Ok, OnOk}
use Rattle.pt_ast.specs.declared.database.Row.{Row}
use Rattle.pt_db.specs.Lookup.{table_of}
use Rattle.pt_db.specs.Outcome.{Outcome, db_behind}
use Rattle.pt_altered.specs.Kept.{IsKeptOf}
use Rattle.pt_altered.specs.Actions.{truncate, truncated_of}
use Rattle.pt_altered.specs.Altered.{none_unplaced, rows_out, with_altered}
use Rattle.pt_altered.proofs.Kept.{truncated_kept}
use Rattle.pt_altered.proofs.Means.{altered_is}
use Rattle.pt_altered.proofs.dropping.truncate.Goals as goal

pub returns-in_ok-rows-in-Ok-clause-after : goal.returns-in_ok-rows-in-Ok-clause-after
returns-in_ok-rows-in-Ok-clause-after c =
    let db = c.args.db.now in
    let name = c.args.name.now in
    let table = c.in-Some.table.now in
    let at : table_of db name ≡ Some table = search rules in
    let made : truncated_of name c.args.parts.now table.def ≡ Ok c.in-Ok.def = sym (c.in_ok-def.ensures) ∙ c.in-Ok.is in
    let rows : c.in_ok-rows-in-Ok.rows ≡ rows_out c.args.parts.now table.def table.rows = c.in_ok-rows-in-Ok.ensures ∙ ap₂ (λ (ns : List (List ℕ)) (own : List Row). rows_out (Some ns) table.def own) c.named.ensures c.items.ensures in
    let means : with_altered db name c.in-Ok.def c.in_ok-rows-in-Ok.rows ≡ truncate db name c.args.parts.now =
    ap (λ (own : List Row). with_altered db name c.in-Ok.def own) rows ∙ sym (altered_is db name table at (truncated_of name c.args.parts.now) none_unplaced (rows_out c.args.parts.now) c.in-Ok.def made refl) in
    subst (λ (outcome : Outcome). OnOk c.keep.result (c.keep.new.db ≡ db_behind db outcome)) means c.keep.ensures.after

pub returns-in_ok-rows-in-Ok-clause-sound : goal.returns-in_ok-rows-in-Ok-clause-sound
returns-in_ok-rows-in-Ok-clause-sound c =
    let db = c.args.db.now in
    let name = c.args.name.now in
    let table = c.in-Some.table.now in
    let at : table_of db name ≡ Some table = search rules in
    let is : Ok c.in-Ok.def ≡ truncated_of name c.args.parts.now table.def = sym c.in-Ok.is ∙ c.in_ok-def.ensures in
    let rows : c.in_ok-rows-in-Ok.rows ≡ rows_out c.args.parts.now table.def table.rows = c.in_ok-rows-in-Ok.ensures ∙ ap₂ (λ (ns : List (List ℕ)) (own : List Row). rows_out (Some ns) table.def own) c.named.ensures c.items.ensures in
    c.keep.ensures.sound c.requires
    (subst (λ (own : List Row). IsKeptOf db name c.in-Ok.def own) (sym rows)
    (truncated_kept db name table c.requires at c.in-Ok.def c.args.parts.now is))
