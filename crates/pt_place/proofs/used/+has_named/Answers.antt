use Rattle.std.proofs.Common.{sym, ◌∙◌}
use Rattle.pt_place.proofs.Naming.{has_first, has_lacking, has_more, has_product, has_sum}
use Rattle.pt_place.proofs.used.+has_named.Goals as goal

pub loop-part-init : goal.loop-part-init
loop-part-init t c = rw c.items-part-items.ensures (has_sum c.args.key.now c.args.columns.now c.args.expr.now c.in-Sum.parts c.in-Sum.is)

pub returns-then-not-has_named : goal.returns-then-not-has_named
returns-then-not-has_named t c =
    has_lacking c.args.key.now c.args.columns.now c.items-part-items.result.now c.loop-part.part-index c.loop-part-item.result c.loop-part-test.true c.loop-part-item.is _ c.loop-part.invariant
    (sym c.has_named-in-loop-part.ensures ∙ c.if-not-has_named.true)

pub loop-part-preserved : goal.loop-part-preserved
loop-part-preserved t c =
    has_more c.args.key.now c.args.columns.now c.items-part-items.result.now c.loop-part.part-index c.loop-part-item.result c.loop-part-test.true c.loop-part-item.is _ c.loop-part.invariant
    (sym c.has_named-in-loop-part.ensures ∙ c.if-not-has_named.false)

pub returns-then-not-has_named-2 : goal.returns-then-not-has_named-2
returns-then-not-has_named-2 t c =
    has_first c.args.key.now c.args.columns.now c.args.expr.now c.in-Product.first c.in-Product.parts c.in-Product.is
    (sym (rw c.get-in-Product.ensures at c.has_named-in-Product.ensures) ∙ c.if-not-has_named-2.true)

pub loop-part-2-init : goal.loop-part-2-init
loop-part-2-init t c =
    rw c.items-part-items-in-Product.ensures
    (has_product c.args.key.now c.args.columns.now c.args.expr.now c.in-Product.first c.in-Product.parts c.in-Product.is
    (sym (rw c.get-in-Product.ensures at c.has_named-in-Product.ensures) ∙ c.if-not-has_named-2.false))

pub returns-then-not-has_named-3 : goal.returns-then-not-has_named-3
returns-then-not-has_named-3 t c =
    has_lacking c.args.key.now c.args.columns.now c.items-part-items-in-Product.result.now c.loop-part-2.part-index c.loop-part-2-item.result c.loop-part-2-test.true c.loop-part-2-item.is _ c.loop-part-2.invariant
    (sym c.has_named-in-loop-part-2.ensures ∙ c.if-not-has_named-3.true)

pub loop-part-2-preserved : goal.loop-part-2-preserved
loop-part-2-preserved t c =
    has_more c.args.key.now c.args.columns.now c.items-part-items-in-Product.result.now c.loop-part-2.part-index c.loop-part-2-item.result c.loop-part-2-test.true c.loop-part-2-item.is _ c.loop-part-2.invariant
    (sym c.has_named-in-loop-part-2.ensures ∙ c.if-not-has_named-3.false)
