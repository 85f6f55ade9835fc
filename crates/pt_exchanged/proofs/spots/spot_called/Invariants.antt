use Rattle.std.proofs.Common.{◌≡◌, None}
use Rattle.std.specs.List.{find, flat_map, range_with_len}
use Rattle.pt_db.specs.Spots.{spots_in}
use Rattle.pt_exchanged.specs.Exchanged.{is_called}
use Rattle.pt_exchanged.proofs.spots.spot_called.Given as goal

abbrev pub invariant-loop-part : goal.invariant-loop-part
invariant-loop-part l = find (is_called l.def l.name) (flat_map (spots_in l.def) (range_with_len 0 l.part)) ≡ None
