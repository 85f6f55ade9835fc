use Rattle.std.proofs.Common.{◌∙◌, ap, sym}
use Rattle.pt_expr.specs.Truths.{holds}
use Rattle.pt_reach.proofs.Orders.{null_equal, null_less}
use Rattle.pt_reach.proofs.searching.null_holds.Goals as goal

pub returns-then-is_null : goal.returns-then-is_null
returns-then-is_null c = c.holds_equal.ensures ∙ ap (holds c.args.cmp) (sym (null_equal _ (sym c.is_null.ensures ∙ c.if-is_null.true)))

pub returns : goal.returns
returns c = c.holds_less.ensures ∙ ap (holds c.args.cmp) (sym (null_less _ (sym c.is_null.ensures ∙ c.if-is_null.false)))
