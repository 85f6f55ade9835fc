use Rattle.pt_holds.proofs.Held.{empty_holds}
use Rattle.pt_holds.proofs.laws.empty_holds.Goals as goal

pub returns : goal.returns
returns c = empty_holds
