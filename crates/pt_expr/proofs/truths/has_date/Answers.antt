use Rattle.pt_expr.proofs.Deciding.{list_ok}
use Rattle.pt_expr.proofs.truths.has_date.Goals as goal

pub are_dates-requires : goal.are_dates-requires
are_dates-requires c = list_ok c.args.columns.now c.args.expr.now c.args.list.now c.requires
