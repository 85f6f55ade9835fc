use Rattle.std.proofs.Common.{sym, subst, ◌∙◌}
use Rattle.std.specs.Prelude.{IsSome}
use Rattle.pt_host.specs.Listed.{by_name}
use Rattle.pt_store.specs.Store.{sizes}
use Rattle.pt_store.proofs.Maps.{on_ok}
use Rattle.pt_session.specs.Opening.{table_in}
use Rattle.pt_session.specs.Session.{length_of}
use Rattle.pt_session.proofs.Defined.{defined_more, defined_still, read_more}
use Rattle.pt_session.proofs.RowFiles.{name_there}
use Rattle.pt_session.proofs.opening.add_file.Goals as goal

pub add_table-requires-clause-held : goal.add_table-requires-clause-held
add_table-requires-clause-held g c =
    subst (λ name. IsSome (length_of c.args.store.now name)) c.in-Some.ensures.some.name
    (name_there (sizes c.args.store.now) c.args.i c.unwrap-name.result (sym c.name_at.ensures.value ∙ c.unwrap-name.ensures))

pub add_table-requires-clause-named : goal.add_table-requires-clause-named
add_table-requires-clause-named g c = c.in-Some.ensures.some.table

pub returns-in-Some-clause-defined : goal.returns-in-Some-clause-defined
returns-in-Some-clause-defined g c =
    on_ok c.add_table.result _ _
    (λ added. defined_more (sizes c.args.store.now) c.args.i c.unwrap-name.result (sym c.name_at.ensures.value ∙ c.unwrap-name.ensures) _ _ _ (table_in c.args.tables.now) (table_in c.add_table.new.tables) c.in-Some.table c.in-Some.ensures.some added)
    c.add_table.ensures.adds

pub returns-in-Some-clause-read : goal.returns-in-Some-clause-read
returns-in-Some-clause-read g c =
    on_ok c.add_table.result _ _
    (λ added tells map is so. read_more (by_name map) (table_in c.args.tables.now) (table_in c.add_table.new.tables) c.in-Some.table added.def added.put (added.read tells map is) so)
    c.add_table.ensures.adds

pub returns-in-None-clause-defined : goal.returns-in-None-clause-defined
returns-in-None-clause-defined g c =
    defined_still (sizes c.args.store.now) c.args.i c.unwrap-name.result (sym c.name_at.ensures.value ∙ c.unwrap-name.ensures) (table_in c.args.tables.now) c.in-None.ensures.none
