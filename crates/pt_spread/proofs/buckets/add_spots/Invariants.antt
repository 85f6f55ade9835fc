use Rattle.std.proofs.Common.{◌≡◌, ◌++◌, map}
use Rattle.std.specs.List.{range_with_len}
use Rattle.pt_db.specs.Spots.{spot_at}
use Rattle.pt_spread.specs.Spread.{beside_none}
use Rattle.pt_spread.proofs.buckets.add_spots.Given as goal

abbrev pub invariant-loop-sub : goal.invariant-loop-sub
invariant-loop-sub l = l.found.items ≡ l.initial.found.items ++ map beside_none (map (spot_at l.part) (range_with_len 0 l.sub))
