use Rattle.std.proofs.Common.{◌≡◌, ◌∙◌, rules, ap, ap₂}
use Rattle.std.specs.Prelude.{Some, Ok}
use Rattle.pt_ast.specs.declared.database.Db.{Db}
use Rattle.pt_db.specs.Lookup.{filled, table_of}
use Rattle.pt_db.specs.Rows.{spot_rows}
use Rattle.pt_exchanged.specs.Exchanged.{exchanged_rows, rows_elsewhere, spot_for, with_all}
use Rattle.pt_exchanged.proofs.Made.{exchange_leaves}
use Rattle.pt_exchanged.proofs.exchanging.exchange.Goals as goal

pub returns-in_ok-reply-in-Ok-clause-after : goal.returns-in_ok-reply-in-Ok-clause-after
returns-in_ok-reply-in-Ok-clause-after c =
    let db = c.args.db.now in
    let name = c.args.name.now in
    let part = c.args.part.now in
    let other = c.args.other.now in
    let table = c.in-Some.table.now in
    let beside = c.in-Some-table_of.beside.now in
    let spot = c.in-Ok.spot in
    let at : table_of db name ≡ Some table = search rules in
    let there : table_of db other ≡ Some beside = search rules in
    let is : spot_for name part other table beside ≡ Ok spot = search rules in
    let stays : c.in_ok-rows-in-Ok.rows ≡ rows_elsewhere table.def spot table.rows = c.in_ok-rows-in-Ok.ensures ∙ ap (rows_elsewhere table.def spot) c.items.ensures in
    let goes : c.in_ok-goes-in-Ok.goes ≡ spot_rows table.def spot table.rows = c.in_ok-goes-in-Ok.ensures ∙ ap (spot_rows table.def spot) c.items-in-Ok.ensures in
    let put : c.put_all.new.rows ≡ with_all c.items-in-Ok-2.result.now c.in_ok-rows-in-Ok.rows = search rules in
    let made : c.put_all.new.rows ≡ exchanged_rows table.def spot table.rows beside.rows = put ∙ ap₂ with_all c.items-in-Ok-2.ensures stays in
    c.replace_rows-in-Ok.ensures
    ∙ ap (λ (own : Db). filled own other c.in_ok-goes-in-Ok.goes db.next) c.replace_rows.ensures
    ∙ exchange_leaves db name part other table beside spot c.put_all.new.rows c.in_ok-goes-in-Ok.goes at there is made goes
