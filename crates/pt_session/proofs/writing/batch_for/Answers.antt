use Rattle.std.proofs.Common.{◌∙◌, sym, ap}
use Rattle.std.specs.Option.{option_copied}
use Rattle.pt_session.proofs.Writes.{batch_ok}
use Rattle.pt_session.proofs.writing.batch_for.Goals as goal

pub returns-clause-fits : goal.returns-clause-fits
returns-clause-fits c =
    batch_ok c.args.session.now c.args.change.now c.in-Some.def.now c.batch_of.result c.requires.open (sym c.table.ensures ∙ ap (λ o. option_copied o) c.in-Some.is) c.batch_of.ensures
