use Rattle.std.proofs.Common.{◌≡◌, ◌∙◌, ap, Some, subst, sym, rules}
use Rattle.std.specs.List.{All}
use Rattle.pt_ast.specs.declared.database.Row.{Row}
use Rattle.pt_expr.specs.Columns.{AreFitting}
use Rattle.pt_checks.specs.Wanted.{candidates}
use Rattle.pt_db.specs.Lookup.{table_of}
use Rattle.pt_db.proofs.Sounds.{sound_table}
use Rattle.pt_flat.proofs.Taken.{rows_fit, candidates_all}
use Rattle.pt_flat.proofs.selecting.select.Goals as goal

pub candidates-requires-clause-valid : goal.candidates-requires-clause-valid
candidates-requires-clause-valid c =
    let at : table_of c.args.db.now c.args.query.now.table ≡ Some c.in-Some.table.now = search rules in
    (sound_table c.args.db.now c.requires c.args.query.now.table c.in-Some.table.now at).valid

pub candidates-requires-clause-fitting : goal.candidates-requires-clause-fitting
candidates-requires-clause-fitting c =
    let at : table_of c.args.db.now c.args.query.now.table ≡ Some c.in-Some.table.now = search rules in
    rw c.items-rows.ensures (rows_fit c.args.db.now c.args.query.now.table c.in-Some.table.now c.requires at)

pub select_text-requires-clause-fitting : goal.select_text-requires-clause-fitting
select_text-requires-clause-fitting c =
    let at : table_of c.args.db.now c.args.query.now.table ≡ Some c.in-Some.table.now = search rules in
    let fit = rows_fit c.args.db.now c.args.query.now.table c.in-Some.table.now c.requires at in
    let all = candidates_all (λ (row : Row). AreFitting c.in-Some.table.now.def.columns row.cells) c.in-Some.table.now.def c.args.query.now.parts c.args.query.now.tail c.in-Some.table.now.rows fit in
    subst (λ rows. All (λ (row : Row). AreFitting c.in-Some.table.now.def.columns row.cells) rows) (sym (c.items.ensures ∙ c.in_ok-rows.ensures ∙ ap (candidates c.in-Some.table.now.def c.args.query.now.parts c.args.query.now.tail) c.items-rows.ensures)) all
