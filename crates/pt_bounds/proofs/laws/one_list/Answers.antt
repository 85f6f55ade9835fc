use Rattle.pt_bounds.proofs.Once.{once}
use Rattle.pt_bounds.proofs.laws.one_list.Goals as goal

pub returns : goal.returns
returns c = once
