use Rattle.pt_parse_ddl.proofs.Whole.{one}
use Rattle.pt_parse_ddl.proofs.laws.one_statement.Goals as goal

pub returns : goal.returns
returns c = one
