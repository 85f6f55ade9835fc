use Rattle.pt_defs.proofs.Files.{one_spelling}
use Rattle.pt_defs.proofs.laws.one_spelling.Goals as goal

pub returns : goal.returns
returns c = one_spelling
