use Rattle.pt_checks.proofs.Checking.{query_checked}
use Rattle.pt_checks.proofs.queries.bad_query.Goals as goal

pub returns-clause-checked : goal.returns-clause-checked
returns-clause-checked c = query_checked c.args.def.now c.args.query.now c.refused_of.result c.refused_of.ensures
