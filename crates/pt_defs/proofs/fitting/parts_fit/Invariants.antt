use Rattle.std.proofs.Common.{All, take}
use Rattle.pt_defs.specs.Fitting.{FitsPart}
use Rattle.pt_defs.proofs.fitting.parts_fit.Given as goal

abbrev pub invariant-loop-part : goal.invariant-loop-part
invariant-loop-part l = All FitsPart (take l.part-index l.parts)
