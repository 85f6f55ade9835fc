use Rattle.pt_hash.proofs.Powers.{least_power-is, greatest_power-at}
use Rattle.pt_hash.proofs.laws.one_power.Goals as goal

pub returns-clause-least : goal.returns-clause-least
returns-clause-least c = least_power-is

pub returns-clause-greatest : goal.returns-clause-greatest
returns-clause-greatest c = greatest_power-at
