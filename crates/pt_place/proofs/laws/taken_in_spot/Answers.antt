use Rattle.pt_place.proofs.OneSpot as proved
use Rattle.pt_place.proofs.laws.taken_in_spot.Goals as goal

pub returns : goal.returns
returns c = proved.taken_in_spot
