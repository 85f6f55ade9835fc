use Rattle.std.proofs.Common.{sym, ap₂, ◌∙◌}
use Rattle.std.specs.Prelude.{Bool, ◌||◌}
use Rattle.pt_expr.proofs.Deciding.{list_ok}
use Rattle.pt_reach.proofs.Membership.{in_is}
use Rattle.pt_reach.proofs.atoms.in_reach.Goals as goal

pub returns-then-is_in_constants : goal.returns-then-is_in_constants
returns-then-is_in_constants g c =
    in_is g.met.T.Scale.stays c.args.columns.now c.args.at c.args.nulls.now c.requires.kind _ c.either-dates.result c.args.is_not c.args.expr.now c.args.list.now c.requires.checked
    (c.either-dates.ensures ∙ ap₂ (λ (a b : Bool). a || b) c.is_date.ensures c.are_dates.ensures) (sym c.is_in_constants.ensures ∙ c.if-is_in_constants.true)
    c.in_ok-reach.ensures

pub own_in-requires-clause-found : goal.own_in-requires-clause-found
own_in-requires-clause-found g c = list_ok c.args.columns.now c.args.expr.now c.args.list.now c.requires.checked
