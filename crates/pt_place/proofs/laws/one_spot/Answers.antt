use Rattle.pt_place.proofs.OneSpot as proved
use Rattle.pt_place.proofs.laws.one_spot.Goals as goal

pub returns : goal.returns
returns c = proved.one_spot
