use Rattle.pt_flat.specs.Step.{step}
use Rattle.pt_session.proofs.TellingAlter.{weaker}
use Rattle.pt_engine.proofs.executing.execute.Goals as goal

pub returns-clause-told : goal.returns-clause-told
returns-clause-told g c tells map is = weaker (λ db. step db c.args.stmt.now) c.args.session.now _ map _ _ _ (c.execute_other.ensures.told tells map is)

pub returns-clause-idle : goal.returns-clause-idle
returns-clause-idle g c other tells map db is stands same = ((c.execute_other.ensures.told tells map is).idle db stands same).0
