use Rattle.pt_value.proofs.Spelled.{one_day}
use Rattle.pt_value.proofs.laws.one_spelling.Goals as goal

pub returns : goal.returns
returns c = one_day
