use Rattle.std.proofs.Common.{◌≡◌, drop, map}
use Rattle.std.specs.List.{list_any}
use Rattle.pt_place.specs.Checks.{is_primary_rank}
use Rattle.pt_place.proofs.columns.has_primary.Given as goal

abbrev pub invariant-loop-key : goal.invariant-loop-key
invariant-loop-key l = list_any is_primary_rank (map (λ other. other.rank) (drop l.key-index l.keys)) ≡ list_any is_primary_rank (map (λ other. other.rank) l.keys)
