use Rattle.std.proofs.Common.{All, take}
use Rattle.pt_defs.specs.Fitting.{FitsBound}
use Rattle.pt_defs.proofs.fitting.tuple_fits.Given as goal

abbrev pub invariant-loop-bound : goal.invariant-loop-bound
invariant-loop-bound l = All FitsBound (take l.bound-index l.bounds)
