use Rattle.std.proofs.Common.{List, ℕ, not, filter, ap}
use Rattle.pt_reading.specs.Blank.{is_blank}
use Rattle.pt_reading.proofs.Blanks as blanks
use Rattle.pt_reading.proofs.Cuts.{all_cuts}
use Rattle.pt_reading.proofs.laws.all_statements.Goals as goal

pub returns-clause-blank : goal.returns-clause-blank
returns-clause-blank c = blanks.blank

pub returns-clause-all : goal.returns-clause-all
returns-clause-all c script within = ap (filter (λ (piece : List ℕ). not (is_blank piece))) (all_cuts script within)
