use Rattle.pt_ddl_log.proofs.ByName as by_name
use Rattle.pt_ddl_log.proofs.laws.in_any_order.Goals as goal

pub returns : goal.returns
returns c = by_name.in_any_order
