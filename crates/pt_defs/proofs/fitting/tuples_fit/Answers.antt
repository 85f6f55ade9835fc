use Rattle.std.proofs.Common.{List, All, subst, take_all}
use Rattle.std.proofs.lemmas.List.Elements.{All-more}
use Rattle.pt_ast.specs.declared.table.Bound.{Bound}
use Rattle.pt_defs.specs.Fitting.{FitsBound}
use Rattle.pt_defs.proofs.fitting.tuples_fit.Goals as goal

pub loop-tuple-preserved : goal.loop-tuple-preserved
loop-tuple-preserved c = All-more (λ (tuple : List Bound). All FitsBound tuple) c.args.tuples.now c.loop-tuple.tuple-index c.tuple-item.result c.loop-tuple-test.true c.loop-tuple.invariant (subst (λ (tuple : List Bound). All FitsBound tuple) c.tuple-item.is (subst (All FitsBound) c.items.ensures c.tuple_fits.ensures))

pub returns : goal.returns
returns c = subst (All (λ (tuple : List Bound). All FitsBound tuple)) (take_all c.loop-tuple.tuple-index c.args.tuples.now c.loop-tuple-test.false) c.loop-tuple.invariant
