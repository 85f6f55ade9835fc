use Rattle.std.proofs.Common.{◌+◌, drop, sym, ap, ◌∙◌, arith}
use Rattle.std.specs.Ordering.{is_ne}
use Rattle.pt_ast.specs.Bounds.{tuple_cmp}
use Rattle.pt_bounds.specs.Sought.{items_of, seen}
use Rattle.pt_bounds.proofs.Tuples.{as_long, longer, one_item, shorter, then_equal, then_unequal}
use Rattle.pt_bounds.proofs.compare.tuple_cmp.Goals as goal

pub returns-in_default : goal.returns-in_default
returns-in_default c = sym (c.loop-at.invariant ∙ longer c.args.tuple.now (items_of c.args.other) c.loop-at.at c.loop-at-test.true (sym c.in_default.ensures))

pub returns-then-is_ne : goal.returns-then-is_ne
returns-then-is_ne c =
    let e = c.bound_cmp-order.ensures in
    let unequal = ap is_ne (sym e) ∙ sym c.is_ne.ensures ∙ c.if-is_ne.true in
    e ∙ sym (c.loop-at.invariant ∙ one_item c.args.tuple.now (items_of c.args.other) c.loop-at.at (c.loop-at.at + 1) c.index-tuple-at.result (seen c.in-Some.item) (omega arith) c.loop-at-test.true c.index-tuple-at.is (sym c.in-Some.ensures) ∙ then_unequal _ _ unequal)

pub loop-at-preserved : goal.loop-at-preserved
loop-at-preserved c =
    let e = c.bound_cmp-order.ensures in
    let equal = ap is_ne (sym e) ∙ sym c.is_ne.ensures ∙ c.if-is_ne.false in
    c.loop-at.invariant ∙ one_item c.args.tuple.now (items_of c.args.other) c.loop-at.at (c.loop-at.at + 1) c.index-tuple-at.result (seen c.in-Some.item) (omega arith) c.loop-at-test.true c.index-tuple-at.is (sym c.in-Some.ensures) ∙ then_equal _ _ equal

pub returns-in-Some-item : goal.returns-in-Some-item
returns-in-Some-item c =
    let items = items_of c.args.other in
    sym (c.loop-at.invariant ∙ ap (λ k. tuple_cmp (drop k c.args.tuple.now) (drop k items)) (omega (arith, c.loop-at-test.false, c.loop-at.auto.at-end)) ∙ shorter c.args.tuple.now items (seen c.in-Some-item.field-0) (sym c.in-Some-item.ensures))

pub returns-in-None : goal.returns-in-None
returns-in-None c =
    let items = items_of c.args.other in
    sym (c.loop-at.invariant ∙ ap (λ k. tuple_cmp (drop k c.args.tuple.now) (drop k items)) (omega (arith, c.loop-at-test.false, c.loop-at.auto.at-end)) ∙ as_long c.args.tuple.now items (sym c.in-None.ensures))
