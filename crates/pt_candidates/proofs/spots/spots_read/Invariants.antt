use Rattle.std.proofs.Common.{◌≡◌, filter}
use Rattle.std.specs.List.{flat_map, range_with_len}
use Rattle.pt_checks.specs.Wanted.{is_named_spot}
use Rattle.pt_db.specs.Spots.{spots_in}
use Rattle.pt_candidates.proofs.spots.spots_read.Given as goal

abbrev pub invariant-loop-part : goal.invariant-loop-part
invariant-loop-part l = l.found ≡ filter (is_named_spot l.def l.parts) (flat_map (spots_in l.def) (range_with_len 0 l.part))
