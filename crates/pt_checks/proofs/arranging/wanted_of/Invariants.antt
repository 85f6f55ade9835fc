use Rattle.std.proofs.Common.{◌≡◌, filter, take}
use Rattle.pt_checks.specs.Wanted.{is_wanted}
use Rattle.pt_checks.proofs.arranging.wanted_of.Given as goal

abbrev pub invariant-loop-row : goal.invariant-loop-row
invariant-loop-row l = l.found ≡ filter (is_wanted l.def l.parts l.cond) (take l.row-index l.rows)
