use Rattle.std.proofs.Common.{◌≡◌, None, map}
use Rattle.std.specs.List.{find, range_with_len}
use Rattle.pt_db.specs.Spots.{spot_at}
use Rattle.pt_exchanged.specs.Exchanged.{is_called}
use Rattle.pt_exchanged.proofs.spots.spot_in_part.Given as goal

abbrev pub invariant-loop-sub : goal.invariant-loop-sub
invariant-loop-sub l = find (is_called l.def l.name) (map (spot_at l.part) (range_with_len 0 l.sub)) ≡ None
