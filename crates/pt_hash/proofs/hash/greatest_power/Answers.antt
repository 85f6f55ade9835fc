use Rattle.std.proofs.Common.{◌∙◌}
use Rattle.std.proofs.lemmas.Nat.{one_shl}
use Rattle.pt_hash.proofs.Powers.{greatest_of}
use Rattle.pt_hash.proofs.hash.greatest_power.Goals as goal

pub returns-clause-value : goal.returns-clause-value
returns-clause-value c =
    let log = c.ilog2.ensures in
    one_shl c.ilog2.result 32 log.bound ∙ greatest_of c.args.n c.ilog2.result log.power_le log.next_power_gt
