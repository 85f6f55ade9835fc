use Rattle.std.proofs.Common.{sym}
use Rattle.pt_flat.proofs.Growing.{filled_none, filled_more}
use Rattle.pt_flat.proofs.filling.fill.Goals as goal

pub loop-at-init : goal.loop-at-init
loop-at-init c = filled_none c.args.mode c.args.def.now c.args.new.now c.args.rows.now c.args.start c.requires.sound c.requires.counted

pub loop-at-preserved : goal.loop-at-preserved
loop-at-preserved c =
    filled_more c.args.mode c.args.def.now c.args.new.now c.args.rows.now c.args.start c.loop-at.filling c.fill_row.new.filling c.loop-at.at c.index-rows-at.result
    c.loop-at-test.true (sym c.index-rows-at.is) c.loop-at.invariant c.in_ok-fill_row.ensures.filled c.in_ok-fill_row.ensures.sound c.in_ok-fill_row.ensures.grown c.in_ok-fill_row.ensures.counted
