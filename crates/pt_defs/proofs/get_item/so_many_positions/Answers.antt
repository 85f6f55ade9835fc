use Rattle.std.proofs.lemmas.Result.{err_from_is_err_and}
use Rattle.pt_defs.specs.Reading.{position_at}
use Rattle.pt_defs.proofs.Loops.{goes_on, ends, is_done}
use Rattle.pt_defs.proofs.get_item.so_many_positions.Goals as goal

pub returns-in_err-item : goal.returns-in_err-item
returns-in_err-item c =
    let p = err_from_is_err_and c.from_residual.result c.from_residual.ensures.1 in
    rw (p.1, p.2) (ends (position_at c.args.width) c.loop.items c.args.count c.loop.counter c.loop.rest.now _ c.in_err-item.field-0.0 c.loop-test.true c.in_err-item.ensures c.loop.invariant)

pub loop-preserved : goal.loop-preserved
loop-preserved c = goes_on (position_at c.args.width) c.loop.items c.args.count c.loop.counter c.loop.rest.now _ c.in_ok-item.item c.in_ok-item.after.now _ c.loop-test.true c.in_ok-item.ensures c.loop.invariant c.in_ok-push.ensures.ok

pub returns : goal.returns
returns c = is_done (position_at c.args.width) c.loop.items c.args.count c.loop.counter c.loop.rest.now _ c.loop-test.false c.loop.invariant
