use Rattle.std.proofs.Common.{◌≡◌, insert, refl, sym, subst, ◌∙◌}
use Rattle.pt_ast.specs.Rising.{NamesRise}
use Rattle.pt_db.specs.Lookup.{with_table}
use Rattle.pt_db.proofs.Lookups.{added_rise}
use Rattle.pt_db.proofs.changes.insert_table.Goals as goal

pub returns-clause-rises : goal.returns-clause-rises
returns-clause-rises c =
    let tables = c.args.tables.now.items in
    let is : with_table c.args.table tables ≡ insert tables c.place_for-place.result c.args.table = rw (← c.deref.ensures.value) (c.place_for-place.ensures.added c.args.table refl) in
    subst NamesRise (is ∙ sym c.in_ok-insert.ensures.items) (added_rise c.args.table tables c.requires.rising)
