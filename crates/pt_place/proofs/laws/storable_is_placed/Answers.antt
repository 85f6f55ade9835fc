use Rattle.pt_place.proofs.Positions.{storable_placed}
use Rattle.pt_place.proofs.laws.storable_is_placed.Goals as goal

pub returns : goal.returns
returns c = storable_placed
