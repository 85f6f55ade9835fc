use Rattle.pt_show.proofs.Joined.{product_done, sum_all, sum_more, sum_none}
use Rattle.pt_show.proofs.show_expr.+show_expr.Goals as goal

pub show_sum-loop-i-init : goal.show_sum-loop-i-init
show_sum-loop-i-init t c = sum_none c.args.out.now.items

pub show_sum-loop-i-preserved : goal.show_sum-loop-i-preserved
show_sum-loop-i-preserved t c =
    sum_more c.args.out.now.items c.loop-i.out.items c.show_term.new.out.items c.items-items.result.now c.loop-i.i c.index-items-i.result c.index-items-i.result c.loop-i-test.true c.index-items-i.is c.loop-i.invariant
    c.in_ok-show_term.ensures

pub show_sum-returns : goal.show_sum-returns
show_sum-returns t c = sum_all c.args.out.now.items _ c.items-items.result.now c.args.parts.now c.loop-i.i c.items-items.ensures c.loop-i-test.false c.loop-i.invariant

pub show_expr-returns-in_ok-show_operand-in-Product : goal.show_expr-returns-in_ok-show_operand-in-Product
show_expr-returns-in_ok-show_operand-in-Product t c =
    product_done c.show_factors.result c.args.expr.now _ _ _ c.args.out.now.items _ c.show_factors.new.out.items c.in-Product.is c.get-in-Product.ensures c.in_ok-show_operand-in-Product.ensures c.show_factors.ensures
