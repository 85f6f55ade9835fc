use Rattle.std.proofs.Common.{sym, ◌∙◌}
use Rattle.pt_reach.proofs.Membership.{between_is, by_ends, three_dates}
use Rattle.pt_reach.proofs.atoms.between_reach.Goals as goal

pub returns-then-is_between_constants : goal.returns-then-is_between_constants
returns-then-is_between_constants g c =
    between_is g.met.T.Scale.stays c.args.columns.now c.args.at c.args.nulls.now c.requires.kind _ c.either-dates.result c.args.is_not c.args.expr.now c.args.low.now c.args.high.now c.requires.checked
    (three_dates _ _ _ _ _ _ _ _ c.either-dates.ensures c.is_date-then-is_between_constants-2.ensures c.either-ends.ensures c.is_date.ensures c.is_date-then-is_between_constants.ensures) (sym c.is_between_constants.ensures ∙ c.if-is_between_constants.true)
    (by_ends c.args.is_not _ _ _ _ _ c.operand-low.ensures c.operand-high.ensures c.in_ok-reach.ensures)
