use Rattle.std.proofs.Common.{All, take}
use Rattle.pt_defs.specs.Fitting.{FitsColumn}
use Rattle.pt_defs.proofs.fitting.columns_fit.Given as goal

abbrev pub invariant-loop-column : goal.invariant-loop-column
invariant-loop-column l = All FitsColumn (take l.column-index l.columns)
