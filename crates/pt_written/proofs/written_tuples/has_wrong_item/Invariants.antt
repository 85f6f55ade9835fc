use Rattle.std.proofs.Common.{◌≡◌, drop}
use Rattle.pt_place.specs.Fitting.{kinds_of}
use Rattle.pt_written.specs.Complete.{has_item, is_wrong_item}
use Rattle.pt_written.proofs.written_tuples.has_wrong_item.Given as goal

abbrev pub invariant-loop-at : goal.invariant-loop-at
invariant-loop-at l = has_item (is_wrong_item l.less) (drop l.at (kinds_of l.columns l.by)) (drop l.at l.tuple) ≡ has_item (is_wrong_item l.less) (kinds_of l.columns l.by) l.tuple
