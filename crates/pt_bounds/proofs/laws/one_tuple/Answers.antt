use Rattle.pt_bounds.proofs.Orders.{tuple_cmp-Equal}
use Rattle.pt_bounds.proofs.laws.one_tuple.Goals as goal

pub returns : goal.returns
returns c = tuple_cmp-Equal
