use Rattle.pt_holds.proofs.Alters.{one_alteration}
use Rattle.pt_holds.proofs.laws.one_alteration.Goals as goal

pub returns : goal.returns
returns c = one_alteration
