use Rattle.std.proofs.Common.{sym, ◌∙◌}
use Rattle.pt_reach.proofs.Membership.{in_none, in_outside, in_positive}
use Rattle.pt_reach.proofs.atoms.own_in.Goals as goal

pub returns-then-not-is_not : goal.returns-then-not-is_not
returns-then-not-is_not g c = in_positive c.args.is_not _ _ c.if-not-is_not.true c.in_ok-spans.ensures

pub returns-then-have_null : goal.returns-then-have_null
returns-then-have_null g c = in_none c.args.is_not _ _ c.if-not-is_not.false (sym c.have_null.ensures ∙ c.if-have_null.true) c.nowhere.ensures

pub returns : goal.returns
returns g c = in_outside c.args.is_not _ _ _ c.if-not-is_not.false (sym c.have_null.ensures ∙ c.if-have_null.false) g.met.T.Scale.some c.in_ok-equal.ensures c.in_ok-spans-2.ensures
