use Rattle.std.proofs.Common.{◌≡◌, ◌++◌}
use Rattle.pt_candidates.specs.Read.{wanted_of}
use Rattle.pt_candidates.proofs.reading.add_wanted.Given as goal

abbrev pub invariant-loop-row : goal.invariant-loop-row
invariant-loop-row l = l.found ≡ l.initial.found ++ wanted_of l.def l.parts l.cond l.yielded
