use Rattle.pt_session.proofs.GivenFiles.{given_more}
use Rattle.pt_session.proofs.altering.add_given.Goals as goal

pub loop-spot-preserved : goal.loop-spot-preserved
loop-spot-preserved c =
    given_more c.args.name.now c.args.def.now c.args.fresh.now c.loop-spot.spot-index c.loop-spot-item.result c.loop-spot-test.true c.loop-spot-item.is c.args.files.now c.loop-spot.files c.push.new.self
    c.file_of.result c.in_ok-text.text c.items.result.now c.items.ensures c.in_ok-text.ensures.text c.in_ok-text.ensures.records c.file_of.ensures c.in_ok-push.ensures.ok c.loop-spot.invariant
