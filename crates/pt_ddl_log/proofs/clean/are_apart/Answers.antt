use Rattle.std.proofs.Common.{◌∙◌, sym, refl, arith}
use Rattle.std.proofs.lemmas.Bool.{false≢true}
use Rattle.pt_ddl_log.proofs.Apart.{apart_more, met}
use Rattle.pt_ddl_log.proofs.clean.are_apart.Goals as goal

pub loop-i-preserved : goal.loop-i-preserved
loop-i-preserved c = apart_more c.args.acts.now c.loop-i.i c.index-acts-i.result c.loop-i.invariant c.loop-i-test.true c.index-acts-i.is (sym c.meets_any.ensures ∙ c.if-meets_any.false)

pub returns-then-meets_any : goal.returns-then-meets_any
returns-then-meets_any c = (
  λ bad. absurd (false≢true bad),
  λ pairs. absurd (met c.args.acts.now c.loop-i.i c.index-acts-i.result c.loop-i-test.true c.index-acts-i.is (sym c.meets_any.ensures ∙ c.if-meets_any.true) pairs),
)

pub returns : goal.returns
returns c = (λ yes i j d less within. c.loop-i.invariant i j d less (omega (arith, c.loop-i-test.false)), λ pairs. refl)
