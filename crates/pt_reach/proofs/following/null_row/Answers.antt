use Rattle.std.proofs.Common.{subst, sym}
use Rattle.pt_expr.specs.Columns.{AreFitting}
use Rattle.pt_reach.proofs.Filled.{nulls_fit}
use Rattle.pt_reach.proofs.following.null_row.Goals as goal

pub returns : goal.returns
returns c = record { fitting = subst (AreFitting c.args.columns.now) (sym c.in_ok-cells.ensures) (nulls_fit c.args.columns.now) }
