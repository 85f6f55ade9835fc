use Rattle.std.proofs.Common.{ap, arith, length}
use Rattle.pt_expr.proofs.Nodes.{fitting_length}
use Rattle.pt_session.proofs.Taken.{taken_fit}
use Rattle.pt_session.proofs.looking.are_taken.Goals as goal

pub returns-then-items : goal.returns-then-items
returns-then-items c = (
  λ h. absurd (cc),
  λ taken. absurd (omega (arith, c.if-items.true, ap length c.items.ensures, ap length c.items-2.ensures, fitting_length c.args.columns.now c.args.cells.now (taken_fit c.args.columns.now c.args.cells.now taken).0)),
)
