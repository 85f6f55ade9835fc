use Rattle.std.proofs.Common.{sym, ◌∙◌}
use Rattle.pt_written.proofs.KeyTexts.{item_found, item_more}
use Rattle.pt_written.proofs.key_texts.bad_keys_after.Goals as goal

pub returns-in-Some : goal.returns-in-Some
returns-in-Some c =
    item_found c.args.columns.now c.args.items.now c.loop-item.item-index c.loop-item.seen c.item-item.result c.loop-item-test.true c.item-item.is _ c.loop-item.invariant c.in-Some.refusal
    (sym c.bad_keys_in.ensures ∙ c.in-Some.is)

pub loop-item-preserved : goal.loop-item-preserved
loop-item-preserved c =
    rw c.seen_after-seen.ensures
    (item_more c.args.columns.now c.args.items.now c.loop-item.item-index c.loop-item.seen c.item-item.result c.loop-item-test.true c.item-item.is _ c.loop-item.invariant
    (sym c.bad_keys_in.ensures ∙ c.in_default.is))
