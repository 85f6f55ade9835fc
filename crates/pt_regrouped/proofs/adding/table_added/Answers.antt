use Rattle.pt_complete.proofs.Naming.{err_made}
use Rattle.pt_regrouped.proofs.Answered.{add_made, add_refused}
use Rattle.pt_regrouped.proofs.Kept.{few_subs}
use Rattle.pt_regrouped.proofs.Ordered.{add_kind}
use Rattle.pt_regrouped.proofs.adding.table_added.Goals as goal

pub returns-in-Some : goal.returns-in-Some
returns-in-Some c = err_made _ _ c.in-Some.refusal (add_kind c.args.table.now c.args.items.now c.args.def.now c.in-Some.refusal c.in-Some.ensures)

pub parts_listed-requires : goal.parts_listed-requires
parts_listed-requires c = few_subs c.args.def.now c.requires.storable c.requires.valid

pub returns-in_ok-table_with-in-Ok : goal.returns-in_ok-table_with-in-Ok
returns-in_ok-table_with-in-Ok c =
    add_made c.args.table.now c.args.items.now c.args.def.now c.in_default.ensures c.items.result.now c.items-2.result.now c.in_ok-parts.field-0 c.items.ensures c.items-2.ensures c.in_ok-parts.ensures
    c.in-Ok.parts c.in_ok-table_with-in-Ok.field-0 c.in-Ok.is c.in_ok-table_with-in-Ok.ensures

pub returns-in-Err : goal.returns-in-Err
returns-in-Err c =
    add_refused c.args.table.now c.args.items.now c.args.def.now c.in_default.ensures c.items.result.now c.items-2.result.now c.in_ok-parts.field-0 c.items.ensures c.items-2.ensures c.in_ok-parts.ensures
    c.in-Err.refusal c.in-Err.is
