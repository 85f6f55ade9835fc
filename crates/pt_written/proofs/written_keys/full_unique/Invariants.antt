use Rattle.std.proofs.Common.{◌≡◌, drop}
use Rattle.std.specs.Prelude.{find}
use Rattle.pt_written.specs.Written.{is_full_unique}
use Rattle.pt_written.proofs.written_keys.full_unique.Given as goal

abbrev pub invariant-loop-key : goal.invariant-loop-key
invariant-loop-key l = find (is_full_unique l.columns) (drop l.key-index l.keys) ≡ find (is_full_unique l.columns) l.keys
