use Rattle.std.proofs.Common.{subst}
use Rattle.pt_reading.specs.Taking.{TakesSome}
use Rattle.pt_reading.proofs.TakingLemmas.{over_more, over_short}
use Rattle.pt_reading.proofs.script.Script.take.Goals as goal

pub returns-in-None-clause-takes : goal.returns-in-None-clause-takes
returns-in-None-clause-takes c =
    let part = c.loop-rest.self in
    let new = c.take_part.new.self in
    let rest = c.loop-rest.rest.now in
    over_short c.args.self.now part new c.args.bytes.now rest c.loop-rest.invariant (subst (TakesSome rest part new) c.in-None.is c.in_ok-take_part.ensures)

pub loop-rest-preserved : goal.loop-rest-preserved
loop-rest-preserved c =
    let part = c.loop-rest.self in
    let new = c.take_part.new.self in
    let rest = c.loop-rest.rest.now in
    over_more c.args.self.now part new c.args.bytes.now rest c.behind-rest.result.now c.in-Some.used c.loop-rest.invariant
    (subst (TakesSome rest part new) c.in-Some.is c.in_ok-take_part.ensures) c.behind-rest.ensures
