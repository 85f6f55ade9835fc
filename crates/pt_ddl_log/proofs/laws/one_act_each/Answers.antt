use Rattle.pt_ddl_log.proofs.ByName as by_name
use Rattle.pt_ddl_log.proofs.laws.one_act_each.Goals as goal

pub returns : goal.returns
returns c = by_name.one_act_each
