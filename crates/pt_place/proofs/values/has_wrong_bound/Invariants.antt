use Rattle.std.proofs.Common.{◌≡◌, drop}
use Rattle.pt_place.specs.Checks.{is_range}
use Rattle.pt_place.specs.Fitting.{kinds_of}
use Rattle.pt_place.specs.Valid.{has_bound, is_wrong_bound}
use Rattle.pt_place.proofs.values.has_wrong_bound.Given as goal

abbrev pub invariant-loop-at : goal.invariant-loop-at
invariant-loop-at l = has_bound (is_wrong_bound (is_range l.def.by)) (drop l.at (kinds_of l.def.columns l.def.by)) (drop l.at l.tuple) ≡ has_bound (is_wrong_bound (is_range l.def.by)) (kinds_of l.def.columns l.def.by) l.tuple
