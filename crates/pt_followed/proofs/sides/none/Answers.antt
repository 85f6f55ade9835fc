use Rattle.pt_followed.proofs.Edges.{none_lower}
use Rattle.pt_followed.proofs.sides.none.Goals as goal

pub returns : goal.returns
returns c = none_lower
