use Rattle.pt_unique.proofs.Agreement.{agreeing}
use Rattle.pt_unique.proofs.laws.agreeing.Goals as goal

pub returns : goal.returns
returns c = agreeing
