use Rattle.std.proofs.Common.{ap, arith, length}
use Rattle.pt_expr.proofs.Nodes.{fitting_length}
use Rattle.pt_complete_cases.proofs.cells.are_fitting.Goals as goal

pub returns-then-items : goal.returns-then-items
returns-then-items c = (
  λ h. absurd (cc),
  λ fits. absurd (omega (arith, c.if-items.true, ap length c.items.ensures, ap length c.items-2.ensures, fitting_length c.args.columns.now c.args.cells.now fits)),
)
