use Rattle.std.proofs.Common.{◌≡◌, ◌++◌, drop}
use Rattle.pt_place.specs.Fitting.{kinds_of}
use Rattle.pt_written.specs.WrittenParts.{tuple_of}
use Rattle.pt_complete.specs.Making.{AreConstants}
use Rattle.pt_complete.proofs.items_made.tuple_of.Given as goal

abbrev pub invariant-loop-at : goal.invariant-loop-at
invariant-loop-at l =
    (l.tuple ++ tuple_of (drop l.at (kinds_of l.columns l.by)) (drop l.at l.items) ≡ tuple_of (kinds_of l.columns l.by) l.items)
    × AreConstants (drop l.at (kinds_of l.columns l.by)) (drop l.at l.items)
