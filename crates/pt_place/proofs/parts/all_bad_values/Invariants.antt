use Rattle.std.proofs.Common.{◌≡◌, drop}
use Rattle.pt_place.specs.First.{first_in}
use Rattle.pt_place.specs.Fitting.{kinds_of}
use Rattle.pt_place.specs.Valid.{bad_values}
use Rattle.pt_place.proofs.parts.all_bad_values.Given as goal

abbrev pub invariant-loop-part : goal.invariant-loop-part
invariant-loop-part l = first_in (bad_values (kinds_of l.def.columns l.def.by) l.def.by) (drop l.part-index l.parts) ≡ first_in (bad_values (kinds_of l.def.columns l.def.by) l.def.by) l.parts
