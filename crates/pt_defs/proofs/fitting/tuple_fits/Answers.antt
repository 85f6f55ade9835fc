use Rattle.std.proofs.Common.{All, subst, take_all}
use Rattle.std.proofs.lemmas.List.Elements.{All-more}
use Rattle.pt_defs.specs.Fitting.{FitsBound}
use Rattle.pt_defs.proofs.fitting.tuple_fits.Goals as goal

pub loop-bound-preserved : goal.loop-bound-preserved
loop-bound-preserved c = All-more FitsBound c.args.bounds.now c.loop-bound.bound-index c.bound-item.result c.loop-bound-test.true c.loop-bound.invariant (subst FitsBound c.bound-item.is c.bound_fits.ensures)

pub returns : goal.returns
returns c = subst (All FitsBound) (take_all c.loop-bound.bound-index c.args.bounds.now c.loop-bound-test.false) c.loop-bound.invariant
