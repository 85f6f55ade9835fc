use Rattle.std.proofs.Common.{sym, ◌∙◌}
use Rattle.pt_place.proofs.Naming.{some_product, some_sum}
use Rattle.pt_place.proofs.used.+names_column.Goals as goal

pub loop-part-init : goal.loop-part-init
loop-part-init t c = rw c.items-part-items.ensures (some_sum c.args.expr.now c.in-Sum.parts c.in-Sum.is)

pub loop-part-2-init : goal.loop-part-2-init
loop-part-2-init t c =
    rw c.items-part-items-in-Product.ensures
    (some_product c.args.expr.now c.in-Product.first c.in-Product.parts c.in-Product.is (sym (rw c.get-in-Product.ensures at c.names_column-in-Product.ensures) ∙ c.if-names_column-2.false))
