use Rattle.std.proofs.Common.{◌∙◌, sym}
use Rattle.std.proofs.lemmas.Result.{err_from_is_err_and}
use Rattle.pt_expr.proofs.Parts.{sum_whole, sum_more, sum_fault, sum_end, product_whole, product_more, product_fault, product_end}
use Rattle.pt_expr.proofs.typing.+finding.Goals as goal

pub loop-part-init : goal.loop-part-init
loop-part-init t c =
    rw (c.of-sum.ensures, c.wide.ensures, c.items-part-items.ensures) (sum_whole c.args.columns.now c.args.expr.now c.in-Sum.parts c.in-Sum.is)

pub loop-part-preserved : goal.loop-part-preserved
loop-part-preserved t c =
    rw c.plus-sum.ensures (sum_more _ c.args.columns.now c.loop-part.sum c.items-part-items.result.now c.loop-part.part-index c.loop-part-item.result c.in_ok-finding-in-Sum.field-0 c.loop-part-test.true c.loop-part-item.is
    c.loop-part.invariant (sym c.in_ok-finding-in-Sum.was ∙ c.finding-in-loop-part.ensures))

pub returns-in_err-finding-in-Sum : goal.returns-in_err-finding-in-Sum
returns-in_err-finding-in-Sum t c =
    let p = err_from_is_err_and c.from_residual-in_err-finding-in-Sum.result c.from_residual-in_err-finding-in-Sum.ensures.1 in
    rw (p.1, p.2) (sum_fault _ c.args.columns.now c.loop-part.sum c.items-part-items.result.now c.loop-part.part-index c.loop-part-item.result c.in_err-finding-in-Sum.field-0.0 c.loop-part-test.true c.loop-part-item.is
    c.loop-part.invariant (sym c.in_err-finding-in-Sum.was ∙ c.finding-in-loop-part.ensures))

pub returns-after-loop-part : goal.returns-after-loop-part
returns-after-loop-part t c =
    c.end.ensures ∙ sum_end _ c.args.columns.now c.loop-part.sum c.items-part-items.result.now c.loop-part.part-index c.loop-part-test.false c.loop-part.invariant

pub loop-op-init : goal.loop-op-init
loop-op-init t c =
    rw (c.of-product.ensures, c.items-op-items.ensures)
    (product_whole c.args.columns.now c.args.expr.now c.in-Product.first c.in-Product.parts c.in_ok-finding-in-Product.field-0 c.in-Product.is (sym c.in_ok-finding-in-Product.was ∙ rw c.get-in-Product.ensures at c.finding-in-Product.ensures))

pub loop-op-preserved : goal.loop-op-preserved
loop-op-preserved t c =
    rw c.times-product.ensures (product_more _ c.args.columns.now c.loop-op.product c.items-op-items.result.now c.loop-op.op-index c.loop-op-item.result c.in_ok-finding-in-Product-2.field-0 c.loop-op-test.true c.loop-op-item.is
    c.loop-op.invariant (sym c.in_ok-finding-in-Product-2.was ∙ c.finding-in-loop-op.ensures))

pub returns-in_err-finding-in-Product-2 : goal.returns-in_err-finding-in-Product-2
returns-in_err-finding-in-Product-2 t c =
    let p = err_from_is_err_and c.from_residual-in_err-finding-in-Product-2.result c.from_residual-in_err-finding-in-Product-2.ensures.1 in
    rw (p.1, p.2) (product_fault _ c.args.columns.now c.loop-op.product c.items-op-items.result.now c.loop-op.op-index c.loop-op-item.result c.in_err-finding-in-Product-2.field-0.0 c.loop-op-test.true c.loop-op-item.is
    c.loop-op.invariant (sym c.in_err-finding-in-Product-2.was ∙ c.finding-in-loop-op.ensures))

pub returns-after-loop-op : goal.returns-after-loop-op
returns-after-loop-op t c =
    c.end-in-Product.ensures ∙ product_end _ c.args.columns.now c.loop-op.product c.items-op-items.result.now c.loop-op.op-index c.loop-op-test.false c.loop-op.invariant
