use Rattle.std.proofs.Common.{◌≡◌, drop}
use Rattle.std.specs.Prelude.{find}
use Rattle.pt_place.specs.Checks.{is_primary_rank}
use Rattle.pt_written.proofs.written_keys.primary_key.Given as goal

abbrev pub invariant-loop-key : goal.invariant-loop-key
invariant-loop-key l = find (λ key. is_primary_rank key.rank) (drop l.key-index l.keys) ≡ find (λ key. is_primary_rank key.rank) l.keys
