use Rattle.std.proofs.Common.{sym, ◌∙◌}
use Rattle.pt_expr.specs.Truths.{compared}
use Rattle.pt_reach.specs.Steps.{mirrored}
use Rattle.pt_reach.proofs.Membership.{by_constant, by_sign, two_dates}
use Rattle.pt_reach.proofs.Tests.{left_reach, right_reach}
use Rattle.pt_reach.proofs.atoms.compare_reach.Goals as goal

pub returns-then-is_own : goal.returns-then-is_own
returns-then-is_own g c =
    left_reach g.met.T.Scale.stays c.args.columns.now c.args.at c.args.nulls.now c.requires.kind _ c.either-dates.result c.args.cmp c.args.left.now c.args.right.now c.requires.checked
    (two_dates _ _ _ _ _ c.either-dates.ensures c.is_date.ensures c.is_date-2.ensures) (sym c.is_own.ensures ∙ c.if-is_own.true)
    (by_constant (compared c.args.cmp) _ _ _ c.operand.ensures c.in_ok-reach.ensures)

pub returns-then-is_own-2 : goal.returns-then-is_own-2
returns-then-is_own-2 g c =
    right_reach g.met.T.Scale.stays c.args.columns.now c.args.at c.args.nulls.now c.requires.kind _ c.either-dates.result c.args.cmp c.args.left.now c.args.right.now c.requires.checked
    (two_dates _ _ _ _ _ c.either-dates.ensures c.is_date.ensures c.is_date-2.ensures) (sym c.is_own-2.ensures ∙ c.if-is_own-2.true)
    (by_constant (compared (mirrored c.args.cmp)) _ _ _ c.operand-then-is_own-2.ensures (by_sign _ _ _ _ c.mirrored.ensures c.in_ok-reach-2.ensures))
