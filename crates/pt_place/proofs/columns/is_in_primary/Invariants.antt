use Rattle.std.proofs.Common.{◌≡◌, ◌&&◌, drop}
use Rattle.std.specs.List.{list_any}
use Rattle.pt_place.specs.Checks.{has_column, is_primary_rank}
use Rattle.pt_place.proofs.columns.is_in_primary.Given as goal

abbrev pub invariant-loop-key : goal.invariant-loop-key
invariant-loop-key l = list_any (λ key. is_primary_rank key.rank && has_column key l.number) (drop l.key-index l.keys) ≡ list_any (λ key. is_primary_rank key.rank && has_column key l.number) l.keys
