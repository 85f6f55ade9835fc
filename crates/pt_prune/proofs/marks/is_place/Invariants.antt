use Rattle.std.proofs.Common.{◌≡◌, drop}
use Rattle.std.specs.List.{list_any}
use Rattle.pt_reach.specs.May.{is_at}
use Rattle.pt_prune.proofs.marks.is_place.Given as goal

abbrev pub invariant-loop-place : goal.invariant-loop-place
invariant-loop-place l = list_any (is_at l.part) (drop l.place-index l.places) ≡ list_any (is_at l.part) l.places
