use Rattle.pt_followed.proofs.Edges.{null_lowest}
use Rattle.pt_followed.proofs.sides.every.Goals as goal

pub returns : goal.returns
returns c = null_lowest
