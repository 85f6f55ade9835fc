use Rattle.pt_rowfile.proofs.Whole.{one_file}
use Rattle.pt_rowfile.proofs.laws.one_file.Goals as goal

pub returns : goal.returns
returns c = one_file
