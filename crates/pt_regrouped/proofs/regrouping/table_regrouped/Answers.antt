use Rattle.std.proofs.Common.{◌∙◌, ap, sym}
use Rattle.pt_place.specs.First.{first_in}
use Rattle.pt_complete.proofs.Naming.{err_made}
use Rattle.pt_regrouped.specs.Regrouped.{no_part, own_names}
use Rattle.pt_regrouped.proofs.Answered.{regroup_made, regroup_refused}
use Rattle.pt_regrouped.proofs.Kept.{few_subs}
use Rattle.pt_regrouped.proofs.Ordered.{regroup_kind, regroup_known}
use Rattle.pt_regrouped.proofs.regrouping.table_regrouped.Goals as goal

pub returns-in-Some : goal.returns-in-Some
returns-in-Some c = err_made _ _ c.in-Some.refusal (regroup_kind c.args.table.now c.args.names.now c.args.items.now c.args.def.now c.in-Some.refusal c.in-Some.ensures)

pub returns-in-Some-2 : goal.returns-in-Some-2
returns-in-Some-2 c =
    err_made _ _ c.in-Some-2.refusal
    (regroup_known c.args.table.now c.args.names.now c.args.items.now c.args.def.now c.in-Some-2.refusal c.in_default.ensures
    (sym c.in-Some-2.is ∙ c.in_ok-refusal.ensures ∙ ap (λ l. first_in (no_part (own_names l)) c.items-2.result.now) c.items.ensures ∙ ap (first_in (no_part (own_names c.args.def.now.parts))) c.items-2.ensures))

pub parts_replaced-requires : goal.parts_replaced-requires
parts_replaced-requires c = few_subs c.args.def.now c.requires.storable c.requires.valid

pub returns-in-Ok : goal.returns-in-Ok
returns-in-Ok c =
    let known = sym c.in_default-2.is ∙ c.in_ok-refusal.ensures ∙ ap (λ l. first_in (no_part (own_names l)) c.items-2.result.now) c.items.ensures ∙ ap (first_in (no_part (own_names c.args.def.now.parts))) c.items-2.ensures in
    regroup_made c.args.table.now c.args.names.now c.args.items.now c.args.def.now c.in_default.ensures known c.in_ok-named.named c.items-4.result.now c.in_ok-parts.field-0
    (c.in_ok-named.ensures ∙ c.items-3.ensures) c.items-4.ensures c.in_ok-parts.ensures
    c.in-Ok.parts c.in_ok-table_with-in-Ok.field-0 c.in-Ok.is c.in_ok-table_with-in-Ok.ensures

pub returns : goal.returns
returns c =
    let known = sym c.in_default-2.is ∙ c.in_ok-refusal.ensures ∙ ap (λ l. first_in (no_part (own_names l)) c.items-2.result.now) c.items.ensures ∙ ap (first_in (no_part (own_names c.args.def.now.parts))) c.items-2.ensures in
    regroup_refused c.args.table.now c.args.names.now c.args.items.now c.args.def.now c.in_default.ensures known c.in_ok-named.named c.items-4.result.now c.in_ok-parts.field-0
    (c.in_ok-named.ensures ∙ c.items-3.ensures) c.items-4.ensures c.in_ok-parts.ensures
    c.in-Err.refusal c.in-Err.is
