use Rattle.pt_value.proofs.Order.{value_cmp-Equal}
use Rattle.pt_value.proofs.laws.one_value.Goals as goal

pub returns : goal.returns
returns c = value_cmp-Equal
