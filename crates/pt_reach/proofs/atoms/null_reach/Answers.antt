use Rattle.std.proofs.Common.{sym, ◌∙◌}
use Rattle.pt_reach.proofs.Tests.{null_reach}
use Rattle.pt_reach.proofs.atoms.null_reach.Goals as goal

pub returns-then-is_column : goal.returns-then-is_column
returns-then-is_column g c = null_reach c.args.columns.now c.args.at c.args.is_not c.args.expr.now _ (sym c.is_column.ensures ∙ c.if-is_column.true) c.in_ok-reach.ensures
