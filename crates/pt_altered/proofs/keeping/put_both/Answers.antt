use Rattle.std.proofs.Common.{◌≡◌, set, sym, subst, ap, ◌∙◌}
use Rattle.pt_ast.specs.declared.database.Table.{Table}
use Rattle.pt_ast.specs.Rising.{NamesRise}
use Rattle.pt_db.specs.Lookup.{IsPlaceFor, IsPlaceOf, with_both}
use Rattle.pt_db.proofs.Lookups.{both_rise}
use Rattle.pt_altered.proofs.Found.{both_there, none_put}
use Rattle.pt_altered.proofs.keeping.put_both.Goals as goal

abbrev put : (c : goal.After-tables-1) → with_both c.args.name.now c.args.def c.args.rows c.args.tables.now.items ≡ set c.args.tables.now.items c.in-Ok.place c.put_into.new.table
put c =
    let tables = c.args.tables.now.items in
    let is : IsPlaceOf tables c.args.name.now c.in-Ok.place = rw (← c.deref.ensures.value) c.in-Ok.ensures in
    both_there tables c.args.name.now c.args.def c.args.rows c.requires c.in-Ok.place c.index_mut.result.now is
    ∙ sym (ap (λ (table : Table). set tables c.in-Ok.place table) (c.put_into.ensures ∙ ap (λ (table : Table). record table { def = c.args.def; rows = c.args.rows }) c.index_mut.ensures.value))

pub returns-in-Ok-clause-value : goal.returns-in-Ok-clause-value
returns-in-Ok-clause-value c = sym (put c)

pub returns-in-Ok-clause-rises : goal.returns-in-Ok-clause-rises
returns-in-Ok-clause-rises c = subst NamesRise (put c) (both_rise c.args.name.now c.args.def c.args.rows c.args.tables.now.items c.requires)

pub returns-in-Err-clause-value : goal.returns-in-Err-clause-value
returns-in-Err-clause-value c =
    let is : IsPlaceFor c.args.tables.now.items c.args.name.now c.in-Err.field-0 = rw (← c.deref.ensures.value) c.in-Err.ensures in
    sym (none_put c.args.tables.now.items c.args.name.now c.args.def c.args.rows is.absent)
