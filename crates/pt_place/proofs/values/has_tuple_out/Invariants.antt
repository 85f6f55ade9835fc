use Rattle.std.proofs.Common.{◌≡◌, drop}
use Rattle.std.specs.List.{list_any}
use Rattle.pt_place.specs.Fitting.{kinds_of}
use Rattle.pt_place.specs.Valid.{has_bound, is_bound_out}
use Rattle.pt_place.proofs.values.has_tuple_out.Given as goal

abbrev pub invariant-loop-tuple : goal.invariant-loop-tuple
invariant-loop-tuple l = list_any (has_bound is_bound_out (kinds_of l.def.columns l.def.by)) (drop l.tuple-index l.tuples) ≡ list_any (has_bound is_bound_out (kinds_of l.def.columns l.def.by)) l.tuples
