use Rattle.std.proofs.Common.{rules}
use Rattle.pt_ast.specs.declared.tree.Expr.TheViews.{the_lemmas}
use Rattle.pt_expr.proofs.Evaluating.{call_found_agrees, column_found_agrees, found_fits, product_agrees, product_begins, product_goes_on, product_part_ok, sum_agrees, sum_begins, sum_goes_on, sum_part_ok}
use Rattle.pt_expr.proofs.values.+value_of.Goals as goal

pub loop-minus-init : goal.loop-minus-init
loop-minus-init t c = (0, rw c.items-minus-items.ensures (sum_begins c.args.columns.now c.args.cells.now c.args.expr.now c.in-Sum.parts c.in-Sum.is))

pub value_of-requires-in-loop-minus : goal.value_of-requires-in-loop-minus
value_of-requires-in-loop-minus t c = (
  search (rules, the_lemmas),
  (
    sum_part_ok c.args.columns.now c.args.cells.now c.args.expr.now c.loop-minus.invariant.0 _ c.items-minus-items.result.now c.loop-minus.minus-index c.loop-minus-item.result c.loop-minus-test.true c.loop-minus-item.is
        c.requires.found c.loop-minus.invariant.1,
    c.requires.fitting,
  ),
)

pub plus-sum-requires : goal.plus-sum-requires
plus-sum-requires t c =
    let next = sum_goes_on c.args.columns.now c.args.cells.now c.args.expr.now c.loop-minus.invariant.0 _ c.items-minus-items.result.now c.loop-minus.minus-index c.loop-minus-item.result _
    c.loop-minus-test.true c.loop-minus-item.is c.requires.found c.loop-minus.invariant.1 c.value_of-in-loop-minus.ensures.value c.value_of-in-loop-minus.ensures.agrees in
    next.fits

pub loop-minus-preserved : goal.loop-minus-preserved
loop-minus-preserved t c =
    let next = sum_goes_on c.args.columns.now c.args.cells.now c.args.expr.now c.loop-minus.invariant.0 _ c.items-minus-items.result.now c.loop-minus.minus-index c.loop-minus-item.result _
    c.loop-minus-test.true c.loop-minus-item.is c.requires.found c.loop-minus.invariant.1 c.value_of-in-loop-minus.ensures.value c.value_of-in-loop-minus.ensures.agrees in
    (next.bound, rw c.plus-sum.ensures next.goes)

pub returns-after-loop-minus-clause-agrees : goal.returns-after-loop-minus-clause-agrees
returns-after-loop-minus-clause-agrees t c =
    sum_agrees c.args.columns.now c.args.cells.now c.args.expr.now c.loop-minus.invariant.0 _ c.items-minus-items.result.now c.loop-minus.minus-index c.loop-minus-test.false c.loop-minus.invariant.1

pub loop-op-init : goal.loop-op-init
loop-op-init t c =
    let begins = product_begins c.args.columns.now c.args.cells.now c.args.expr.now c.in-Product.first c.in-Product.parts _ c.in-Product.is c.requires.found
    (rw c.get-in-Product.ensures at c.value_of-product.ensures.value) (rw c.get-in-Product.ensures at c.value_of-product.ensures.agrees) in
    (begins.bound, rw c.items-op-items.ensures begins.goes)

pub value_of-requires-in-loop-op : goal.value_of-requires-in-loop-op
value_of-requires-in-loop-op t c = (
  search (rules, the_lemmas),
  (
    product_part_ok c.args.columns.now c.args.cells.now c.args.expr.now c.loop-op.invariant.0 _ c.items-op-items.result.now c.loop-op.op-index c.loop-op-item.result c.loop-op-test.true c.loop-op-item.is
        c.requires.found c.loop-op.invariant.1,
    c.requires.fitting,
  ),
)

pub times-product-requires : goal.times-product-requires
times-product-requires t c =
    let next = product_goes_on c.args.columns.now c.args.cells.now c.args.expr.now c.loop-op.invariant.0 _ c.items-op-items.result.now c.loop-op.op-index c.loop-op-item.result _
    c.loop-op-test.true c.loop-op-item.is c.requires.found c.loop-op.invariant.1 c.value_of-in-loop-op.ensures.value c.value_of-in-loop-op.ensures.agrees in
    next.can

pub loop-op-preserved : goal.loop-op-preserved
loop-op-preserved t c =
    let next = product_goes_on c.args.columns.now c.args.cells.now c.args.expr.now c.loop-op.invariant.0 _ c.items-op-items.result.now c.loop-op.op-index c.loop-op-item.result _
    c.loop-op-test.true c.loop-op-item.is c.requires.found c.loop-op.invariant.1 c.value_of-in-loop-op.ensures.value c.value_of-in-loop-op.ensures.agrees in
    (next.bound, rw c.times-product.ensures next.goes)

pub returns-after-loop-op-clause-agrees : goal.returns-after-loop-op-clause-agrees
returns-after-loop-op-clause-agrees t c =
    product_agrees c.args.columns.now c.args.cells.now c.args.expr.now c.loop-op.invariant.0 _ c.items-op-items.result.now c.loop-op.op-index c.loop-op-test.false c.loop-op.invariant.1

pub call-requires-clause-fits : goal.call-requires-clause-fits
call-requires-clause-fits t c =
    found_fits _ _ c.requires.found (call_found_agrees c.args.columns.now c.args.expr.now c.in-Call.part c.in-Call.func _ c.in-Call.is (rw c.get-in-Call.ensures at c.value_of-in-Call.ensures.agrees))

pub returns-in-Call-clause-agrees : goal.returns-in-Call-clause-agrees
returns-in-Call-clause-agrees t c =
    rw c.call.ensures (call_found_agrees c.args.columns.now c.args.expr.now c.in-Call.part c.in-Call.func _ c.in-Call.is (rw c.get-in-Call.ensures at c.value_of-in-Call.ensures.agrees))

pub returns-in-Column-clause-agrees : goal.returns-in-Column-clause-agrees
returns-in-Column-clause-agrees t c =
    column_found_agrees c.args.columns.now c.args.cells.now c.args.expr.now c.in-Column.name _ c.in-Column.is c.requires.fitting c.cell_named.ensures
