use Rattle.std.proofs.Common.{◌≡◌, take, map}
use Rattle.pt_place.specs.Fitting.{kinds_of}
use Rattle.pt_written.specs.WrittenParts.{entry_items, tuple_of}
use Rattle.pt_complete.proofs.items_made.entries_of.Given as goal

abbrev pub invariant-loop-entry : goal.invariant-loop-entry
invariant-loop-entry l = l.tuples ≡ map (tuple_of (kinds_of l.columns l.by)) (map entry_items (take l.entry-index l.entries))
