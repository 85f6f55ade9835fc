use Rattle.pt_prune.specs.Lone.{with_name}
use Rattle.pt_prune.proofs.Naming.{product_first, sum_first}
use Rattle.pt_prune.proofs.columns.+lone_in.Goals as goal

pub loop-part-init : goal.loop-part-init
loop-part-init t c = rw c.items-part-items.ensures (sum_first (with_name c.args.columns.now) c.args.before c.args.expr.now c.in-Sum.parts c.in-Sum.is)

pub loop-part-2-init : goal.loop-part-2-init
loop-part-2-init t c =
    rw c.items-part-items-in-Product.ensures
    (product_first (with_name c.args.columns.now) c.args.before c.args.expr.now c.in-Product.first c.in-Product.parts c.lone_in-lone-in-Product.result c.in-Product.is
    (rw c.get-in-Product.ensures at c.lone_in-lone-in-Product.ensures))
