use Rattle.std.proofs.Common.{◌∙◌, sym}
use Rattle.std.proofs.lemmas.Result.{err_from_is_err_and}
use Rattle.pt_expr.proofs.Compared.{operands_end, operands_fault, operands_more, some_operands}
use Rattle.pt_expr.proofs.typing_cond.among.Goals as goal

pub loop-item-init : goal.loop-item-init
loop-item-init c =
    rw c.items-item-items.ensures (some_operands c.args.columns.now c.args.expr.now c.args.list.now c.in_ok-operands.operands (sym c.in_ok-operands.was ∙ rw c.none.ensures at c.with.ensures))

pub loop-item-preserved : goal.loop-item-preserved
loop-item-preserved c =
    operands_more _ c.args.columns.now c.loop-item.operands c.in_ok-operands-2.operands c.items-item-items.result.now c.loop-item.item-index c.item-item.result c.loop-item-test.true c.item-item.is
    c.loop-item.invariant (sym c.in_ok-operands-2.was ∙ c.with-in-loop-item.ensures)

pub returns-in_err-operands-2 : goal.returns-in_err-operands-2
returns-in_err-operands-2 c =
    let p = err_from_is_err_and c.from_residual-in_err-operands-2.result c.from_residual-in_err-operands-2.ensures.1 in
    rw (p.1, p.2) (operands_fault _ c.args.columns.now c.loop-item.operands c.items-item-items.result.now c.loop-item.item-index c.item-item.result c.in_err-operands-2.field-0.0 c.loop-item-test.true c.item-item.is
    c.loop-item.invariant (sym c.in_err-operands-2.was ∙ c.with-in-loop-item.ensures))

pub returns : goal.returns
returns c =
    c.end.ensures ∙ operands_end _ c.args.columns.now c.loop-item.operands c.items-item-items.result.now c.loop-item.item-index c.loop-item-test.false c.loop-item.invariant
