use Rattle.std.proofs.lemmas.Result.{err_from_is_err_and}
use Rattle.pt_engine.proofs.SessionLemmas.{answered_one, stopped_saying, stopped_executing, enters_said, goes_said}
use Rattle.pt_engine.proofs.answers.answer_read.Goals as goal

pub returns-in_err-reply-clause-err : goal.returns-in_err-reply-clause-err
returns-in_err-reply-clause-err g c piece reads =
    let p = err_from_is_err_and c.from_residual.result c.from_residual.ensures.1 in
    rw (p.1, p.2) (λ tells db is. stopped_executing c.args.number piece c.args.reading.now reads db c.reply_for.new.session _ _ c.in_err-reply.field-0.0 (c.in_err-reply.ensures.told tells db is))

pub returns-in_err-reply-clause-over : goal.returns-in_err-reply-clause-over
returns-in_err-reply-clause-over g c =
    let p = err_from_is_err_and c.from_residual.result c.from_residual.ensures.1 in
    rw (p.1, p.2) (λ tells.
    let one = c.in_err-reply.ensures.over tells in
    record { only = one.only; over = one.over })

pub returns-in-Ok-clause-ok : goal.returns-in-Ok-clause-ok
returns-in-Ok-clause-ok g c piece reads tells db is =
    answered_one c.args.number piece c.args.reading.now reads db c.reply_for.new.session _ (g.H.Host.world c.reply_for.new.host) _ c.in_ok-reply.reply c.bytes.result.now
    (c.in_ok-reply.ensures.told tells db is) c.bytes.ensures (c.in-Ok.ensures.ok tells)

pub returns-in-Ok-clause-over : goal.returns-in-Ok-clause-over
returns-in-Ok-clause-over g c tells = goes_said c.bytes.result.now (g.H.Host.world c.reply_for.new.host) _ (c.in-Ok.ensures.ok tells) c.in_ok-reply.reply c.reply_for.new.session _ (c.in_ok-reply.ensures.over tells)

pub returns-clause-over : goal.returns-clause-over
returns-clause-over g c tells =
    let said = c.in-Err.ensures.failed tells in
    record { only = enters_said said.0 (g.H.Host.world c.reply_for.new.host) _ said.3 _ (c.in_ok-reply.ensures.over tells).only; over = tt }

pub returns-clause-err : goal.returns-clause-err
returns-clause-err g c piece reads tells db is =
    stopped_saying c.args.number piece c.args.reading.now reads db c.reply_for.new.session _ (g.H.Host.world c.reply_for.new.host) _ c.in_ok-reply.reply c.bytes.result.now
    (c.in_ok-reply.ensures.told tells db is) c.bytes.ensures (c.in-Err.ensures.failed tells)
