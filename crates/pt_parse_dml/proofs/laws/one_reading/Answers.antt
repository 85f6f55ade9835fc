use Rattle.pt_parse_dml.proofs.Whole.{one_reading}
use Rattle.pt_parse_dml.proofs.laws.one_reading.Goals as goal

pub returns : goal.returns
returns c = one_reading
