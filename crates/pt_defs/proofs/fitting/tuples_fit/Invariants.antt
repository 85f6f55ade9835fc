use Rattle.std.proofs.Common.{All, take}
use Rattle.pt_defs.specs.Fitting.{FitsBound}
use Rattle.pt_defs.proofs.fitting.tuples_fit.Given as goal

abbrev pub invariant-loop-tuple : goal.invariant-loop-tuple
invariant-loop-tuple l = All (λ tuple. All FitsBound tuple) (take l.tuple-index l.tuples)
