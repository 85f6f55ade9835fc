use Rattle.std.proofs.Common.{map, ap, ◌∙◌}
use Rattle.std.proofs.lemmas.List.{take_all}
use Rattle.pt_update.specs.Changes.{delete_of}
use Rattle.pt_update.proofs.RowEnds.{deletes_more}
use Rattle.pt_update.proofs.deleting.deletes_of.Goals as goal

pub loop-row-preserved : goal.loop-row-preserved
loop-row-preserved c =
    deletes_more c.args.def.now c.args.rows.now c.loop-row.row-index c.row-item.result c.loop-row-test.true c.row-item.is c.loop-row.deletes c.spot_of.result c.spot_of.ensures c.loop-row.invariant c.push.new.self c.in_ok-push.ensures.ok

pub returns : goal.returns
returns c = c.loop-row.invariant ∙ ap (map (delete_of c.args.def.now)) (take_all c.loop-row.row-index c.args.rows.now c.loop-row-test.false)
