use Rattle.pt_rowfile.proofs.Records.{one_record}
use Rattle.pt_rowfile.proofs.laws.one_record.Goals as goal

pub returns : goal.returns
returns c = one_record
