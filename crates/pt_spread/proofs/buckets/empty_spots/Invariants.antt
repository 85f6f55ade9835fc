use Rattle.std.proofs.Common.{◌≡◌, map}
use Rattle.std.specs.List.{flat_map, range_with_len}
use Rattle.pt_db.specs.Spots.{spots_in}
use Rattle.pt_spread.specs.Spread.{beside_none}
use Rattle.pt_spread.proofs.buckets.empty_spots.Given as goal

abbrev pub invariant-loop-part : goal.invariant-loop-part
invariant-loop-part l = l.found.items ≡ map beside_none (flat_map (spots_in l.def) (range_with_len 0 l.part))
