use Rattle.pt_parse_alter.proofs.Whole.{one_reading}
use Rattle.pt_parse_alter.proofs.laws.one_reading.Goals as goal

pub returns : goal.returns
returns c = one_reading
