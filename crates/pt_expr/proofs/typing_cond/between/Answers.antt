use Rattle.std.proofs.Common.{◌∙◌, sym}
use Rattle.pt_expr.proofs.Compared.{three_found}
use Rattle.pt_expr.proofs.typing_cond.between.Goals as goal

pub returns : goal.returns
returns c =
    c.end.ensures
    ∙ three_found c.args.columns.now c.args.expr.now c.args.low.now c.args.high.now c.in_ok-operands.operands c.in_ok-operands-2.operands c.in_ok-operands-3.operands
    (sym c.in_ok-operands.was ∙ rw c.none.ensures at c.with.ensures) (sym c.in_ok-operands-2.was ∙ c.with-2.ensures) (sym c.in_ok-operands-3.was ∙ c.with-3.ensures)
