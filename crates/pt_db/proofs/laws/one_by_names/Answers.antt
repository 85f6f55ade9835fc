use Rattle.pt_db.proofs.Sounds.{same_sound}
use Rattle.pt_db.proofs.laws.one_by_names.Goals as goal

pub returns : goal.returns
returns c = same_sound
