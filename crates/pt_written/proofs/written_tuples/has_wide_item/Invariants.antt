use Rattle.std.proofs.Common.{◌≡◌, drop}
use Rattle.pt_place.specs.Fitting.{kinds_of}
use Rattle.pt_written.specs.Complete.{has_item, is_wide_item}
use Rattle.pt_written.proofs.written_tuples.has_wide_item.Given as goal

abbrev pub invariant-loop-at : goal.invariant-loop-at
invariant-loop-at l = has_item is_wide_item (drop l.at (kinds_of l.columns l.by)) (drop l.at l.tuple) ≡ has_item is_wide_item (kinds_of l.columns l.by) l.tuple
