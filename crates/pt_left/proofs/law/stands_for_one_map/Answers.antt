use Rattle.pt_left.proofs.Once.{left_once, left_map, left_has}
use Rattle.pt_left.proofs.law.stands_for_one_map.Goals as goal

pub returns-clause-once : goal.returns-clause-once
returns-clause-once c = left_once

pub returns-clause-map : goal.returns-clause-map
returns-clause-map c = left_map

pub returns-clause-serials : goal.returns-clause-serials
returns-clause-serials c = left_has
