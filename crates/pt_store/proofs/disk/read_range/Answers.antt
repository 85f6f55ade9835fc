use Rattle.pt_host.proofs.Runs.{looks_perhaps}
use Rattle.pt_store.proofs.disk.read_range.Goals as goal

pub returns-in_err-read-clause-looks : goal.returns-in_err-read-clause-looks
returns-in_err-read-clause-looks g c = λ tells. looks_perhaps _ _ _ (c.in_err-read.ensures.failed tells)
