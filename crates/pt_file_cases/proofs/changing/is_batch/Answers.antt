use Rattle.std.proofs.Common.{arith}
use Rattle.pt_store.specs.Store.{sizes}
use Rattle.pt_file_cases.proofs.Fitting.{batch_is}
use Rattle.pt_file_cases.proofs.changing.is_batch.Goals as goal

pub returns : goal.returns
returns c = λ yes. batch_is (sizes c.args.store.now) c.args.parts.now c.requires (omega arith) (c.are_held.ensures.0 yes)
