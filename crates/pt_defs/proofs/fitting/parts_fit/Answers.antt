use Rattle.std.proofs.Common.{All, subst, take_all}
use Rattle.std.proofs.lemmas.List.Elements.{All-more}
use Rattle.pt_defs.specs.Fitting.{FitsPart}
use Rattle.pt_defs.proofs.fitting.parts_fit.Goals as goal

pub loop-part-preserved : goal.loop-part-preserved
loop-part-preserved c = All-more FitsPart c.args.parts.now c.loop-part.part-index c.part-item.result c.loop-part-test.true c.loop-part.invariant (subst FitsPart c.part-item.is c.part_fits.ensures)

pub returns : goal.returns
returns c = subst (All FitsPart) (take_all c.loop-part.part-index c.args.parts.now c.loop-part-test.false) c.loop-part.invariant
