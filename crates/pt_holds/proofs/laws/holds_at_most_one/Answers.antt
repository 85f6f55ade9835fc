use Rattle.pt_holds.proofs.Held.{holds_at_most_one}
use Rattle.pt_holds.proofs.laws.holds_at_most_one.Goals as goal

pub returns : goal.returns
returns c = holds_at_most_one
