use Rattle.pt_reading.proofs.TakingLemmas.{taken_end}
use Rattle.pt_reading.proofs.script.Script.end.Goals as goal

pub returns-clause-whole : goal.returns-clause-whole
returns-clause-whole c = taken_end c.args.self.now _ c.in_ok-close.ensures.statements
