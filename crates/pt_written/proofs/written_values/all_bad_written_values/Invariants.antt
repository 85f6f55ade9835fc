use Rattle.std.proofs.Common.{◌≡◌, drop}
use Rattle.pt_written.specs.Complete.{bad_written_values}
use Rattle.pt_place.specs.First.{first_in}
use Rattle.pt_place.specs.Fitting.{kinds_of}
use Rattle.pt_written.proofs.written_values.all_bad_written_values.Given as goal

abbrev pub invariant-loop-part : goal.invariant-loop-part
invariant-loop-part l = first_in (bad_written_values l.table (kinds_of l.columns l.by) l.by) (drop l.part-index l.parts) ≡ first_in (bad_written_values l.table (kinds_of l.columns l.by) l.by) l.parts
