use Rattle.std.proofs.Common.{◌∙◌}
use Rattle.pt_expr.proofs.Deciding.{names_date_is}
use Rattle.pt_expr.proofs.truths.is_date.Goals as goal

pub returns : goal.returns
returns c = c.names_date.ensures ∙ names_date_is c.args.columns.now c.args.expr.now c.requires
