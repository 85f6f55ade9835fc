use Rattle.pt_gen.proofs.Places.{script_length}
use Rattle.pt_gen.proofs.script.count.Goals as goal

pub returns-clause-whole : goal.returns-clause-whole
returns-clause-whole c = script_length c.args.n
