use Rattle.indexmap.specs.IndexMap.{keys}
use Rattle.pt_session.proofs.InOrder.{names_rise}
use Rattle.pt_session.proofs.opening.read_tables.Goals as goal

pub returns-clause-rising : goal.returns-clause-rising
returns-clause-rising g c = names_rise (keys c.sort_keys.new.self) c.in_ok-sort_keys.ensures.sorted c.sort_keys.ensures.unique
