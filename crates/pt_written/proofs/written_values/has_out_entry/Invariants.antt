use Rattle.std.proofs.Common.{◌≡◌, drop, map}
use Rattle.std.specs.List.{list_any}
use Rattle.pt_written.specs.Complete.{has_item, is_out_item}
use Rattle.pt_place.specs.Fitting.{kinds_of}
use Rattle.pt_written.specs.WrittenParts.{entry_items}
use Rattle.pt_written.proofs.written_values.has_out_entry.Given as goal

abbrev pub invariant-loop-entry : goal.invariant-loop-entry
invariant-loop-entry l = list_any (has_item is_out_item (kinds_of l.columns l.by)) (map entry_items (drop l.entry-index l.entries)) ≡ list_any (has_item is_out_item (kinds_of l.columns l.by)) (map entry_items l.entries)
