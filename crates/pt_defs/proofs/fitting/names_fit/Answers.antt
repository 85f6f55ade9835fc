use Rattle.std.proofs.Common.{All, subst, take_all}
use Rattle.std.proofs.lemmas.List.Elements.{All-more}
use Rattle.pt_value.specs.Ident.{IsIdent}
use Rattle.pt_defs.proofs.fitting.names_fit.Goals as goal

pub loop-name-preserved : goal.loop-name-preserved
loop-name-preserved c = All-more IsIdent c.args.names.now c.loop-name.name-index c.name-item.result c.loop-name-test.true c.loop-name.invariant (subst IsIdent c.name-item.is c.name_fits.ensures)

pub returns : goal.returns
returns c = subst (All IsIdent) (take_all c.loop-name.name-index c.args.names.now c.loop-name-test.false) c.loop-name.invariant
