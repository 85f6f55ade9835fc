use Rattle.std.proofs.Common.{◌≡◌, ◌∙◌, rules, sym, subst, ap}
use Rattle.std.specs.Prelude.{List, Some, None, Ok}
use Rattle.std.specs.List.{All}
use Rattle.pt_ast.specs.declared.database.Row.{Row}
use Rattle.pt_expr.specs.Columns.{AreFitting}
use Rattle.pt_db.specs.Lookup.{table_of}
use Rattle.pt_altered.specs.Altered.{rows_in, unplaced}
use Rattle.pt_altered.specs.Kept.{IsKeptOf}
use Rattle.pt_regrouped.specs.Regrouped.{regrouped_of}
use Rattle.pt_altered.proofs.Kept.{regrouped_fits, regrouped_kept}
use Rattle.pt_altered.proofs.regrouping.reorganize.Goals as goal

pub keep_placed-requires-clause-fitting : goal.keep_placed-requires-clause-fitting
keep_placed-requires-clause-fitting c =
    let db = c.args.db.now in
    let name = c.args.name.now in
    let table = c.in-Some.table.now in
    let at : table_of db name ≡ Some table = search rules in
    let is : Ok c.in-Ok.def ≡ regrouped_of name c.args.names.now c.args.items.now table.def = sym c.in-Ok.ensures.made in
    let asked : c.in_ok-asked-in-Ok.asked ≡ rows_in (Some c.args.names.now) table.def table.rows = search rules in
    subst (λ (own : List Row). All (λ (row : Row). AreFitting c.in-Ok.def.columns row.cells) own) (sym asked)
    (regrouped_fits db name table c.requires.sound at c.in-Ok.def c.in-Ok.ensures.storable c.in-Ok.ensures.valid c.args.names.now c.args.items.now is)

pub returns-in_ok-rows-in-Ok-clause-sound : goal.returns-in_ok-rows-in-Ok-clause-sound
returns-in_ok-rows-in-Ok-clause-sound c =
    let db = c.args.db.now in
    let name = c.args.name.now in
    let table = c.in-Some.table.now in
    let at : table_of db name ≡ Some table = search rules in
    let is : Ok c.in-Ok.def ≡ regrouped_of name c.args.names.now c.args.items.now table.def = sym c.in-Ok.ensures.made in
    let asked : c.in_ok-asked-in-Ok.asked ≡ rows_in (Some c.args.names.now) table.def table.rows = search rules in
    let rows : c.in_ok-rows-in-Ok.rows ≡ table.rows = search rules in
    c.keep_placed.ensures.sound c.requires.sound
    (λ none.
    let placed : unplaced c.in-Ok.def (rows_in (Some c.args.names.now) table.def table.rows) ≡ None = sym (ap (λ (own : List Row). unplaced c.in-Ok.def own) asked) ∙ none in
    subst (λ (own : List Row). IsKeptOf db name c.in-Ok.def own) (sym rows)
    (regrouped_kept db name table c.requires.sound at c.in-Ok.def c.in-Ok.ensures.storable c.in-Ok.ensures.valid c.args.names.now c.args.items.now is placed))
