use Rattle.std.proofs.Common.{◌≡◌, List, set, sym, subst, ap₂, ◌∙◌}
use Rattle.pt_ast.specs.declared.database.Row.{Row}
use Rattle.pt_ast.specs.declared.database.Table.{Table}
use Rattle.pt_ast.specs.Rising.{NamesRise}
use Rattle.pt_db.specs.Lookup.{IsPlaceFor, IsPlaceOf, with_rows}
use Rattle.pt_db.proofs.Found.{no_rows_put, rows_there}
use Rattle.pt_db.proofs.Lookups.{rows_rise}
use Rattle.pt_db.proofs.changes.put_rows.Goals as goal

abbrev put : (c : goal.After-drop) → with_rows c.args.name.now c.args.rows c.args.tables.now.items
    ≡ set c.args.tables.now.items c.in-Ok.place (record { name = c.index_mut.result.now.name; def = c.index_mut.result.now.def; rows = c.replace.new.dest })
put c =
    let tables = c.args.tables.now.items in
    let is : IsPlaceOf tables c.args.name.now c.in-Ok.place = rw (← c.deref.ensures.value) c.in-Ok.ensures in
    rows_there tables c.args.name.now c.requires c.args.rows c.in-Ok.place c.index_mut.result.now is
    ∙ sym (ap₂ (λ (table : Table) (rows : List Row). set tables c.in-Ok.place (record table { rows = rows })) c.index_mut.ensures.value c.replace.ensures.after)

pub returns-in-Ok-clause-value : goal.returns-in-Ok-clause-value
returns-in-Ok-clause-value c = sym (put c)

pub returns-in-Ok-clause-rises : goal.returns-in-Ok-clause-rises
returns-in-Ok-clause-rises c = subst NamesRise (put c) (rows_rise c.args.name.now c.args.rows c.args.tables.now.items c.requires)

pub returns-in-Err-clause-value : goal.returns-in-Err-clause-value
returns-in-Err-clause-value c =
    let is : IsPlaceFor c.args.tables.now.items c.args.name.now c.in-Err.field-0 = rw (← c.deref.ensures.value) c.in-Err.ensures in
    sym (no_rows_put c.args.tables.now.items c.args.name.now is.absent c.args.rows)
