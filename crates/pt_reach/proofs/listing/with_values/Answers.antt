use Rattle.pt_reach.specs.Reaching.{nulls}
use Rattle.pt_reach.proofs.Few.{all_at, listed_more}
use Rattle.pt_reach.proofs.listing.with_values.Goals as goal

pub to_value-requires : goal.to_value-requires
to_value-requires g c = all_at _ c.args.own.now c.loop-value.value-index c.value-item.result c.requires c.loop-value-test.true c.value-item.is

pub loop-value-preserved : goal.loop-value-preserved
loop-value-preserved g c =
    listed_more g.T.Scale.value (nulls c.args.null) c.args.own.now c.loop-value.value-index c.value-item.result c.loop-value.values.items _ _ c.loop-value-test.true c.value-item.is c.in_ok-held.ensures c.in_ok-push.ensures.items c.loop-value.invariant
