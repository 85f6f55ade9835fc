use Rattle.pt_hash.proofs.Splitting.{splits}
use Rattle.pt_hash.proofs.laws.linear_split.Goals as goal

pub returns : goal.returns
returns c = splits
