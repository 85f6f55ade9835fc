use Rattle.pt_checks.proofs.Assigned.{default_fits, default_gives}
use Rattle.pt_checks.proofs.assigning.source_value.Goals as goal

pub returns-in_ok-default_at-in-Default-clause-value : goal.returns-in_ok-default_at-in-Default-clause-value
returns-in_ok-default_at-in-Default-clause-value c =
    default_gives c.args.columns.now c.args.number c.args.at c.args.cells.now c.args.spec.now c.in_ok-default_at-in-Default.field-0 c.requires.below c.requires.defaults c.in-Default.is c.in_ok-default_at-in-Default.ensures

pub returns-in_ok-default_at-in-Default-clause-fits : goal.returns-in_ok-default_at-in-Default-clause-fits
returns-in_ok-default_at-in-Default-clause-fits c =
    default_fits c.args.columns.now c.args.at c.in_ok-default_at-in-Default.field-0 c.requires.below c.requires.defaults c.in_ok-default_at-in-Default.ensures
