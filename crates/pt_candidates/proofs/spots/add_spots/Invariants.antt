use Rattle.std.proofs.Common.{◌≡◌, ◌++◌, filter, map}
use Rattle.std.specs.List.{range_with_len}
use Rattle.pt_checks.specs.Wanted.{is_named_spot}
use Rattle.pt_db.specs.Spots.{spot_at}
use Rattle.pt_candidates.proofs.spots.add_spots.Given as goal

abbrev pub invariant-loop-sub : goal.invariant-loop-sub
invariant-loop-sub l = l.found ≡ l.initial.found ++ filter (is_named_spot l.def l.parts) (map (spot_at l.part) (range_with_len 0 l.sub))
