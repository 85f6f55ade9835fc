use Rattle.std.proofs.Common.{arith}
use Rattle.pt_parse_expr.specs.Grammar.{IsCond}
use Rattle.pt_parse_expr.proofs.Eats.{cond-eats}
use Rattle.pt_parse_expr.proofs.Readings.{nothing_behind}
use Rattle.pt_parse_expr.proofs.parse.longest_cond.Goals as goal

pub returns-then-at-symbols-clause-fault : goal.returns-then-at-symbols-clause-fault
returns-then-at-symbols-clause-fault c = nothing_behind IsCond (λ us rest x d. (cond-eats d).shorter) c.args.symbols.now c.args.at (omega arith)

pub returns-in-Ok-None-clause-fault : goal.returns-in-Ok-None-clause-fault
returns-in-Ok-None-clause-fault c = rw c.in-Ok-None.field-0-is at (c.in-Ok-None.ensures.longest c.requires.shallow)

pub returns-in-Ok-Some-clause-longest : goal.returns-in-Ok-Some-clause-longest
returns-in-Ok-Some-clause-longest c = rw c.in-Ok-Some.field-0-is at (c.in-Ok-Some.ensures.longest c.requires.shallow)

pub returns-in-Ok-Some-clause-storable : goal.returns-in-Ok-Some-clause-storable
returns-in-Ok-Some-clause-storable c = rw c.in-Ok-Some.field-0-is at (c.in-Ok-Some.ensures.storable c.requires.shallow c.requires.storable)
