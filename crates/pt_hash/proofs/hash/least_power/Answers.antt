use Rattle.std.proofs.Common.{◌∙◌, arith}
use Rattle.pt_hash.proofs.Powers.{least_of}
use Rattle.pt_hash.proofs.hash.least_power.Goals as goal

pub returns-clause-value : goal.returns-clause-value
returns-clause-value c =
    let power = c.next_power_of_two.ensures.power in
    power.1 ∙ least_of c.args.n power.0 c.requires (omega (arith, power.1, c.next_power_of_two.ensures.lower_bound)) (omega (arith, power.1, c.next_power_of_two.ensures.upper_bound, c.requires))
