use Rattle.std.proofs.Common.{◌≡◌, ◌++◌, filter, map}
use Rattle.std.specs.List.{range_with_len}
use Rattle.pt_prune.specs.Marks.{keeps}
use Rattle.pt_db.specs.Spots.{spot_at}
use Rattle.pt_prune.proofs.spots.add_spots.Given as goal

abbrev pub invariant-loop-sub : goal.invariant-loop-sub
invariant-loop-sub l = l.found.items ≡ l.initial.found.items ++ filter (keeps l.def l.names l.parts l.subs) (map (spot_at l.part) (range_with_len 0 l.sub))
