use Rattle.pt_defs.specs.Reading.{key_at}
use Rattle.pt_defs.proofs.Loops.{goes_on, ends, is_done}
use Rattle.pt_defs.proofs.get_def.so_many_keys.Goals as goal

pub returns-in-Err : goal.returns-in-Err
returns-in-Err c = ends (key_at c.args.width) c.loop.items c.args.count c.loop.counter c.loop.rest.now _ c.in-Err.stop c.loop-test.true c.in-Err.ensures c.loop.invariant

pub loop-preserved : goal.loop-preserved
loop-preserved c = goes_on (key_at c.args.width) c.loop.items c.args.count c.loop.counter c.loop.rest.now _ c.in-Ok.front.0 c.in-Ok.front.1.now _ c.loop-test.true c.in-Ok.ensures c.loop.invariant c.in_ok-push.ensures.ok

pub returns : goal.returns
returns c = is_done (key_at c.args.width) c.loop.items c.args.count c.loop.counter c.loop.rest.now _ c.loop-test.false c.loop.invariant
