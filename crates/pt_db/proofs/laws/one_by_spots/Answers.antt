use Rattle.pt_db.proofs.Spots.{sound_from_spots}
use Rattle.pt_db.proofs.laws.one_by_spots.Goals as goal

pub returns : goal.returns
returns c = sound_from_spots
