use Rattle.std.proofs.Common.{◌∙◌, sym, ap, subst}
use Rattle.std.specs.List.{All}
use Rattle.std.specs.Option.{option_copied}
use Rattle.pt_defs.specs.Fitting.{FitsPart}
use Rattle.pt_session.proofs.Asks.{dropping_asks}
use Rattle.pt_session.proofs.shaping.dropping.Goals as goal

pub returns-clause-asks : goal.returns-clause-asks
returns-clause-asks c =
    dropping_asks c.args.session.now c.args.name.now c.in-Some.def.now c.in_ok-acts-in-Some.acts c.requires.open (sym c.table.ensures ∙ ap (λ o. option_copied o) c.in-Some.is)
    (subst (All FitsPart) c.items.ensures c.parts_fit.ensures) c.in_ok-acts-in-Some.ensures
