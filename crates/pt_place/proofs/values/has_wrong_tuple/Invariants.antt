use Rattle.std.proofs.Common.{◌≡◌, drop}
use Rattle.std.specs.List.{list_any}
use Rattle.pt_place.specs.Checks.{is_range}
use Rattle.pt_place.specs.Fitting.{kinds_of}
use Rattle.pt_place.specs.Valid.{is_wrong_tuple}
use Rattle.pt_place.proofs.values.has_wrong_tuple.Given as goal

abbrev pub invariant-loop-tuple : goal.invariant-loop-tuple
invariant-loop-tuple l = list_any (is_wrong_tuple (is_range l.def.by) (kinds_of l.def.columns l.def.by)) (drop l.tuple-index l.tuples) ≡ list_any (is_wrong_tuple (is_range l.def.by) (kinds_of l.def.columns l.def.by)) l.tuples
