use Rattle.pt_rowfile.proofs.Files.{appended}
use Rattle.pt_rowfile.proofs.laws.appended.Goals as goal

pub returns : goal.returns
returns c = appended
