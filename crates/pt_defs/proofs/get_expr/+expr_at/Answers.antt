use Rattle.pt_defs.specs.Reading.{expr_at, flag_at, op_at, pair_at}
use Rattle.pt_defs.proofs.Loops.{goes_on, ends, is_done}
use Rattle.pt_defs.proofs.get_expr.+expr_at.Goals as goal

pub so_many_factors-returns-in-Err : goal.so_many_factors-returns-in-Err
so_many_factors-returns-in-Err t c =
    ends (pair_at op_at (expr_at c.args.columns.now c.args.room)) c.loop.items c.args.count c.loop.counter c.loop.rest.now _ c.in-Err.stop c.loop-test.true c.in-Err.ensures c.loop.invariant

pub so_many_factors-loop-preserved : goal.so_many_factors-loop-preserved
so_many_factors-loop-preserved t c =
    goes_on (pair_at op_at (expr_at c.args.columns.now c.args.room)) c.loop.items c.args.count c.loop.counter c.loop.rest.now _ c.in-Ok.front.0 c.in-Ok.front.1.now _ c.loop-test.true c.in-Ok.ensures c.loop.invariant
    c.in_ok-push.ensures.ok

pub so_many_factors-returns : goal.so_many_factors-returns
so_many_factors-returns t c = is_done (pair_at op_at (expr_at c.args.columns.now c.args.room)) c.loop.items c.args.count c.loop.counter c.loop.rest.now _ c.loop-test.false c.loop.invariant

pub more_terms-returns-in-Err : goal.more_terms-returns-in-Err
more_terms-returns-in-Err t c =
    ends (pair_at flag_at (expr_at c.args.columns.now c.args.room)) c.loop.items c.args.count c.loop.counter c.loop.rest.now _ c.in-Err.stop c.loop-test.true c.in-Err.ensures c.loop.invariant

pub more_terms-loop-preserved : goal.more_terms-loop-preserved
more_terms-loop-preserved t c =
    goes_on (pair_at flag_at (expr_at c.args.columns.now c.args.room)) c.loop.items c.args.count c.loop.counter c.loop.rest.now _ c.in-Ok.front.0 c.in-Ok.front.1.now _ c.loop-test.true c.in-Ok.ensures c.loop.invariant
    c.in_ok-push.ensures.ok

pub more_terms-returns : goal.more_terms-returns
more_terms-returns t c = is_done (pair_at flag_at (expr_at c.args.columns.now c.args.room)) c.loop.items c.args.count c.loop.counter c.loop.rest.now _ c.loop-test.false c.loop.invariant
