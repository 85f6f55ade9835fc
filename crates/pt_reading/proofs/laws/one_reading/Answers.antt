use Rattle.pt_reading.proofs.OneReading.{one}
use Rattle.pt_reading.proofs.laws.one_reading.Goals as goal

pub returns : goal.returns
returns c = one
