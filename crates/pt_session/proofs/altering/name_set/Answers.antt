use Rattle.pt_session.specs.Opening.{has}
use Rattle.pt_session.proofs.Renews.{listed_more}
use Rattle.pt_session.proofs.altering.name_set.Goals as goal

pub loop-name-preserved : goal.loop-name-preserved
loop-name-preserved c =
    listed_more (has c.loop-name.set) (has c.insert.new.self) c.args.names.now c.loop-name.name-index c.name-item.result c.loop-name-test.true c.name-item.is c.in_ok-insert.ensures.updates.0
    c.loop-name.invariant
