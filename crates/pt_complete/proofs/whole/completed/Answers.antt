use Rattle.std.proofs.Common.{◌≡◌, ◌∙◌, ap, sym, subst}
use Rattle.std.specs.Prelude.{IfOk, Some}
use Rattle.pt_place.specs.First.{in_turn}
use Rattle.pt_written.specs.Complete.{bad_item, bad_spec, bad_written_key, partitioned, refused_or}
use Rattle.pt_written.specs.Written.{columns_of, keys_of, keys_written, primary_names}
use Rattle.pt_complete.proofs.Naming.{made_err, made_ok}
use Rattle.pt_complete.proofs.Order.{columns_few, columns_refused, keys_refused, spec_whole, unpartitioned}
use Rattle.pt_complete.proofs.Storable.{few_after}
use Rattle.pt_complete.proofs.whole.completed.Goals as goal

pub returns-in-Err-clause-made : goal.returns-in-Err-clause-made
returns-in-Err-clause-made c =
    columns_refused c.args.table.now c.args.spec.now c.in-Err.refusal
    (made_err _ (columns_of c.args.spec.now.items) c.in-Err.refusal (sym c.in-Err.is ∙ c.in_ok-columns.ensures ∙ ap (λ items. refused_or (in_turn (bad_item (primary_names items)) items) (columns_of items)) c.items-items.ensures))

pub returns-in-Some-clause-made : goal.returns-in-Some-clause-made
returns-in-Some-clause-made c =
    let made = made_ok _ (columns_of c.args.spec.now.items) c.in-Ok.columns (sym c.in-Ok.is ∙ c.in_ok-columns.ensures ∙ ap (λ items. refused_or (in_turn (bad_item (primary_names items)) items) (columns_of items)) c.items-items.ensures) in
    keys_refused c.args.table.now c.args.spec.now made.0 c.in-Some.refusal
    (sym (c.in-Some.ensures ∙ ap (λ items. in_turn (bad_written_key c.in-Ok.columns) (keys_written items)) c.items-items.ensures ∙ ap (λ columns. in_turn (bad_written_key columns) (keys_written c.args.spec.now.items)) made.1))

pub keys_of-requires-clause-columns : goal.keys_of-requires-clause-columns
keys_of-requires-clause-columns c =
    let made = made_ok _ (columns_of c.args.spec.now.items) c.in-Ok.columns (sym c.in-Ok.is ∙ c.in_ok-columns.ensures ∙ ap (λ items. refused_or (in_turn (bad_item (primary_names items)) items) (columns_of items)) c.items-items.ensures) in
    columns_few c.args.spec.now c.in-Ok.columns made.1 c.requires.columns

pub partitioned-requires : goal.partitioned-requires
partitioned-requires c =
    let made = made_ok _ (columns_of c.args.spec.now.items) c.in-Ok.columns (sym c.in-Ok.is ∙ c.in_ok-columns.ensures ∙ ap (λ items. refused_or (in_turn (bad_item (primary_names items)) items) (columns_of items)) c.items-items.ensures) in
    columns_few c.args.spec.now c.in-Ok.columns made.1 c.requires.columns

pub returns-in-Some-by-clause-made : goal.returns-in-Some-by-clause-made
returns-in-Some-by-clause-made c =
    let made = made_ok _ (columns_of c.args.spec.now.items) c.in-Ok.columns (sym c.in-Ok.is ∙ c.in_ok-columns.ensures ∙ ap (λ items. refused_or (in_turn (bad_item (primary_names items)) items) (columns_of items)) c.items-items.ensures) in
    subst (λ whole. IfOk c.partitioned.result (λ def. def ≡ whole))
    (spec_whole c.args.table.now c.args.spec.now c.in-Ok.columns c.in_ok-keys.keys c.in-Some-by.by made.0 made.1
    (c.in_ok-keys.ensures.keys ∙ ap (keys_of c.in-Ok.columns) c.items-items.ensures)
    (sym (c.in_default.ensures ∙ ap (λ items. in_turn (bad_written_key c.in-Ok.columns) (keys_written items)) c.items-items.ensures)) c.in-Some-by.is)
    c.partitioned.ensures

pub returns-in-None-clause-made : goal.returns-in-None-clause-made
returns-in-None-clause-made c =
    let made = made_ok _ (columns_of c.args.spec.now.items) c.in-Ok.columns (sym c.in-Ok.is ∙ c.in_ok-columns.ensures ∙ ap (λ items. refused_or (in_turn (bad_item (primary_names items)) items) (columns_of items)) c.items-items.ensures) in
    unpartitioned c.args.table.now c.args.spec.now c.in-Ok.columns c.in_ok-keys.keys c.new.result made.0 made.1
    (c.in_ok-keys.ensures.keys ∙ ap (keys_of c.in-Ok.columns) c.items-items.ensures)
    (sym (c.in_default.ensures ∙ ap (λ items. in_turn (bad_written_key c.in-Ok.columns) (keys_written items)) c.items-items.ensures)) c.in-None.is c.new.ensures

pub returns-in-Some-by-clause-few : goal.returns-in-Some-by-clause-few
returns-in-Some-by-clause-few c =
    few_after c.partitioned.result (bad_spec c.args.table.now c.in-Ok.columns c.in_ok-keys.keys c.in-Some-by.by) (partitioned c.in-Ok.columns c.in_ok-keys.keys (Some c.in-Some-by.by)) c.partitioned.ensures c.in_ok-keys.ensures.few
