use Rattle.pt_expr.proofs.KindsHold.{kind_holds}
use Rattle.pt_expr.proofs.values.eval.Goals as goal

pub returns-clause-kind : goal.returns-clause-kind
returns-clause-kind c = rw c.wanted.ensures (kind_holds c.args.columns.now c.args.expr.now c.args.date _ c.value_of.ensures.agrees)
