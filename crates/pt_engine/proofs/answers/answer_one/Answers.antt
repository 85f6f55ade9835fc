use Rattle.std.proofs.Common.{refl}
use Rattle.std.proofs.lemmas.Result.{err_from_is_err_and}
use Rattle.std.specs.Prelude.{Err}
use Rattle.pt_engine.specs.declared.ending.Ending.TheVariants.{NoMemory}
use Rattle.pt_engine.specs.Saying.{Unread}
use Rattle.pt_engine.proofs.SessionLemmas.{goes_nowhere}
use Rattle.pt_engine.proofs.answers.answer_one.Goals as goal

pub returns-in_err-reading-clause-err : goal.returns-in_err-reading-clause-err
returns-in_err-reading-clause-err g c =
    let p = err_from_is_err_and c.from_residual.result c.from_residual.ensures.1 in
    rw (p.1, p.2) (λ tells db is. Unread refl refl)

pub returns-in_err-reading-clause-over : goal.returns-in_err-reading-clause-over
returns-in_err-reading-clause-over g c =
    let p = err_from_is_err_and c.from_residual.result c.from_residual.ensures.1 in
    rw (p.1, p.2) (λ tells. goes_nowhere c.args.session.now (g.H.Host.world c.args.host.now) (Err NoMemory) tt)

pub returns-clause-ok : goal.returns-clause-ok
returns-clause-ok g c = c.answer_read-answered.ensures.ok c.args.piece.now c.in_ok-reading.ensures.reads

pub returns-clause-err : goal.returns-clause-err
returns-clause-err g c = c.answer_read-answered.ensures.err c.args.piece.now c.in_ok-reading.ensures.reads
