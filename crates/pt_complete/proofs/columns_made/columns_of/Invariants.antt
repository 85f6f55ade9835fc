use Rattle.std.proofs.Common.{◌≡◌, take, drop}
use Rattle.std.specs.List.{filter_map}
use Rattle.pt_place.specs.First.{in_turn, in_turn_from}
use Rattle.pt_place.specs.Names.{names_of}
use Rattle.pt_written.specs.Complete.{bad_item}
use Rattle.pt_written.specs.Written.{column_in, primary_names}
use Rattle.pt_complete.proofs.columns_made.columns_of.Given as goal

abbrev pub invariant-loop-item : goal.invariant-loop-item
invariant-loop-item l =
    (l.columns ≡ filter_map (column_in (primary_names l.items)) (take l.item-index l.items))
    × (l.names ≡ names_of (filter_map (column_in (primary_names l.items)) (take l.item-index l.items)))
    × (in_turn_from (bad_item (primary_names l.items)) (take l.item-index l.items) (drop l.item-index l.items) ≡ in_turn (bad_item (primary_names l.items)) l.items)
