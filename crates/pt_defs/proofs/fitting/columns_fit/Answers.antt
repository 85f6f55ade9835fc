use Rattle.std.proofs.Common.{All, subst, take_all}
use Rattle.std.proofs.lemmas.List.Elements.{All-more}
use Rattle.pt_defs.specs.Fitting.{FitsColumn}
use Rattle.pt_defs.proofs.fitting.columns_fit.Goals as goal

pub loop-column-preserved : goal.loop-column-preserved
loop-column-preserved c = All-more FitsColumn c.args.columns.now c.loop-column.column-index c.column-item.result c.loop-column-test.true c.loop-column.invariant (subst FitsColumn c.column-item.is c.column_fits.ensures)

pub returns : goal.returns
returns c = subst (All FitsColumn) (take_all c.loop-column.column-index c.args.columns.now c.loop-column-test.false) c.loop-column.invariant
