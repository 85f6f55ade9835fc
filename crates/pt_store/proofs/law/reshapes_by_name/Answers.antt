use Rattle.pt_store.proofs.EachName.{each_name}
use Rattle.pt_store.proofs.law.reshapes_by_name.Goals as goal

pub returns : goal.returns
returns c = each_name
