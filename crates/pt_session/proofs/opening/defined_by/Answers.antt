use Rattle.pt_session.proofs.Defined.{def_owner}
use Rattle.pt_session.proofs.opening.defined_by.Goals as goal

pub returns-in_default : goal.returns-in_default
returns-in_default c = record { some = tt; none = λ table is. c.in_default.not-Def table (def_owner c.args.name.now table c.owner_of.result c.owner_of.ensures is) }
