use Rattle.pt_token.proofs.Limits.{cuts_are_all, cuts_end}
use Rattle.pt_token.proofs.laws.cuts_end.Goals as goal

pub returns-clause-all : goal.returns-clause-all
returns-clause-all c = cuts_are_all

pub returns-clause-short : goal.returns-clause-short
returns-clause-short c = cuts_end
