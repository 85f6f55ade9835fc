use Rattle.std.proofs.Common.{sym}
use Rattle.pt_flat.proofs.Renewing.{updated_more, updated_none}
use Rattle.pt_flat.proofs.updating.update_rows.Goals as goal

pub loop-at-init : goal.loop-at-init
loop-at-init c = updated_none c.args.def.now c.args.parts.now c.args.assigns.now c.args.taken.now c.args.start c.requires.counted

pub loop-at-preserved : goal.loop-at-preserved
loop-at-preserved c =
    updated_more c.args.def.now c.args.parts.now c.args.assigns.now c.args.taken.now c.args.start c.loop-at.updating c.in_ok-updating.updating c.loop-at.at c.index-taken-at.result
    c.loop-at-test.true (sym c.index-taken-at.is) c.loop-at.invariant c.in_ok-updating.ensures.updated c.in_ok-updating.ensures.counted c.in_ok-updating.ensures.sound
