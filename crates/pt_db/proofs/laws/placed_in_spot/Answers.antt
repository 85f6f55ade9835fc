use Rattle.pt_db.proofs.Spots.{placed_spot}
use Rattle.pt_db.proofs.laws.placed_in_spot.Goals as goal

pub returns : goal.returns
returns c = λ def cells spot valid. placed_spot def valid cells spot
