use Rattle.std.proofs.Common.{sym, subst, ◌∙◌}
use Rattle.pt_ast.specs.Rising.{NamesRise}
use Rattle.pt_db.specs.Lookup.{IsPlaceFor, IsPlaceOf}
use Rattle.pt_db.proofs.Found.{none_removed, removed_there}
use Rattle.pt_db.proofs.Lookups.{removed_rise}
use Rattle.pt_db.proofs.changes.drop_table.Goals as goal

pub returns-in-Ok-clause-value : goal.returns-in-Ok-clause-value
returns-in-Ok-clause-value c =
    let is : IsPlaceOf c.args.tables.now.items c.args.name.now c.in-Ok.place = rw (← c.deref.ensures.value) c.in-Ok.ensures in
    c.remove.ensures.items ∙ sym (removed_there c.args.tables.now.items c.args.name.now c.requires c.in-Ok.place is)

pub returns-in-Ok-clause-rises : goal.returns-in-Ok-clause-rises
returns-in-Ok-clause-rises c =
    let is : IsPlaceOf c.args.tables.now.items c.args.name.now c.in-Ok.place = rw (← c.deref.ensures.value) c.in-Ok.ensures in
    subst NamesRise (removed_there c.args.tables.now.items c.args.name.now c.requires c.in-Ok.place is ∙ sym c.remove.ensures.items) (removed_rise c.args.name.now c.args.tables.now.items c.requires)

pub returns-in-Err-clause-value : goal.returns-in-Err-clause-value
returns-in-Err-clause-value c =
    let is : IsPlaceFor c.args.tables.now.items c.args.name.now c.in-Err.field-0 = rw (← c.deref.ensures.value) c.in-Err.ensures in
    sym (none_removed c.args.tables.now.items c.args.name.now is.absent)
