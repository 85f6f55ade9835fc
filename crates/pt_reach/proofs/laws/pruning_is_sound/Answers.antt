use Rattle.pt_reach.proofs.Soundness.{sound}
use Rattle.pt_reach.proofs.laws.pruning_is_sound.Goals as goal

pub returns : goal.returns
returns c = sound
