use Rattle.std.proofs.Common.{◌≡◌, filter}
use Rattle.std.specs.List.{flat_map, range_with_len}
use Rattle.pt_prune.specs.Marks.{keeps}
use Rattle.pt_db.specs.Spots.{spots_in}
use Rattle.pt_prune.proofs.spots.marked_spots.Given as goal

abbrev pub invariant-loop-part : goal.invariant-loop-part
invariant-loop-part l = l.found.items ≡ filter (keeps l.def l.names l.parts l.subs) (flat_map (spots_in l.def) (range_with_len 0 l.part))
