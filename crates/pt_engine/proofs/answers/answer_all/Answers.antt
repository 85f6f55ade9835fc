use Rattle.std.proofs.Common.{◌≡◌, length, refl, ◌∙◌, subst, arith}
use Rattle.std.proofs.lemmas.Result.{err_from_is_err_and}
use Rattle.pt_engine.specs.Answers.{after_all}
use Rattle.pt_engine.specs.Saying.{AnswersFirst}
use Rattle.pt_engine.proofs.SayingLemmas.{answered_next, enters_then, none_answered, stopped_in}
use Rattle.pt_engine.proofs.SessionLemmas.{enters_none}
use Rattle.pt_engine.proofs.answers.answer_all.Goals as goal

pub loop-i-init : goal.loop-i-init
loop-i-init g c = record {
  answered = λ tells db is. none_answered db c.args.statements.now c.args.session.now (g.H.Host.world c.args.host.now) is;
  only = λ tells. enters_none (g.H.Host.world c.args.host.now);
  over = c.requires.stands;
  open_still = c.requires.«open»;
  counts = refl;
}

pub answer_one-requires-clause-short : goal.answer_one-requires-clause-short
answer_one-requires-clause-short g c =
    rw (c.items.ensures, c.index-statements-i.is) (c.requires.short c.loop-i.i c.index-statements-i.result c.loop-i-test.true)

pub returns-clause-ok : goal.returns-clause-ok
returns-clause-ok g c tells db is =
    let all : c.loop-i.i ≡ length c.args.statements.now = grind arith in
    subst (λ n. AnswersFirst db c.args.statements.now n c.loop-i.session (g.H.Host.world c.args.host.now) (g.H.Host.world c.loop-i.host)) all (c.loop-i.invariant.answered tells db is)

pub returns-in_err-answer_one-clause-err : goal.returns-in_err-answer_one-clause-err
returns-in_err-answer_one-clause-err g c =
    let p = err_from_is_err_and c.from_residual.result c.from_residual.ensures.1 in
    rw (p.1, p.2) (λ tells db is.
    let had = c.loop-i.invariant.answered tells db is in
    stopped_in db c.args.statements.now c.loop-i.i c.loop-i.session _ _ had _ c.items.result.now c.loop-i-test.true (rw c.items.ensures c.index-statements-i.is)
    c.in_err-answer_one.field-0.0 (c.in_err-answer_one.ensures.err tells (after_all db had.readings) had.stands))

pub returns-in_err-answer_one-clause-over : goal.returns-in_err-answer_one-clause-over
returns-in_err-answer_one-clause-over g c =
    let p = err_from_is_err_and c.from_residual.result c.from_residual.ensures.1 in
    rw (p.1, p.2) (λ tells.
    let one = c.in_err-answer_one.ensures.over tells in
    record { only = enters_then _ _ _ (c.loop-i.invariant.only tells) one.only; over = one.over })

pub returns-clause-over : goal.returns-clause-over
returns-clause-over g c tells = record { only = c.loop-i.invariant.only tells; over = c.loop-i.invariant.over tells }

pub loop-i-preserved : goal.loop-i-preserved
loop-i-preserved g c = record {
  answered = λ tells db is.
      let had = c.loop-i.invariant.answered tells db is in
      answered_next db c.args.statements.now c.loop-i.i c.loop-i.session _ _ had _ c.items.result.now c.loop-i-test.true (rw c.items.ensures c.index-statements-i.is)
      c.answer_one.new.session (c.in_ok-answer_one.ensures.ok tells (after_all db had.readings) had.stands);
  only = λ tells. enters_then _ _ _ (c.loop-i.invariant.only tells) (c.in_ok-answer_one.ensures.over tells).only;
  over = λ tells. (c.in_ok-answer_one.ensures.over tells).over;
  open_still = c.in_ok-answer_one.ensures.«open»;
  counts = c.in_ok-answer_one.ensures.counts ∙ c.loop-i.invariant.counts;
}
