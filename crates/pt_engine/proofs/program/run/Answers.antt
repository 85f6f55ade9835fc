use Rattle.pt_engine.proofs.RunLemmas.{complete}
use Rattle.pt_engine.proofs.program.run.Goals as goal

pub returns-in-Some-clause-idle : goal.returns-in-Some-clause-idle
returns-in-Some-clause-idle g c db formed tells = (c.run_in.ensures.told tells).idle db

pub returns-in-Some-clause-complete : goal.returns-in-Some-clause-complete
returns-in-Some-clause-complete g c db formed tells held none = complete c.run_in.result db _ _ _ _ formed c.run_in.ensures.causes none ((c.run_in.ensures.told tells).stands db held)
