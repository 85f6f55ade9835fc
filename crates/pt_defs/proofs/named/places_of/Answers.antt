use Rattle.pt_defs.proofs.Positions.{places_more}
use Rattle.pt_defs.proofs.named.places_of.Goals as goal

pub loop-place-preserved : goal.loop-place-preserved
loop-place-preserved c =
    places_more _ _ c.args.columns.now c.loop-place.place c.index-columns-place.result c.loop-place-test.true c.index-columns-place.is c.loop-place.invariant c.in_ok-put_first.ensures
