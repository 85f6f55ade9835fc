use Rattle.pt_expr.proofs.Deciding.{among_begins, item_ok}
use Rattle.pt_expr.proofs.truths.among.Goals as goal

pub loop-item-init : goal.loop-item-init
loop-item-init c =
    rw (c.items-item-items.ensures, c.is_null-met_null.ensures)
    (among_begins c.args.columns.now c.args.cells.now c.args.expr.now c.args.list.now _ c.has_date-dates.result c.has_date-dates.ensures c.operand-x.ensures)

pub operand-item-requires-clause-found : goal.operand-item-requires-clause-found
operand-item-requires-clause-found c =
    item_ok c.args.columns.now c.args.expr.now c.args.list.now c.loop-item.item-index c.item-item.result c.requires.checked (rw c.items-item-items.ensures at c.loop-item-test.true) (rw c.items-item-items.ensures at c.item-item.is)
