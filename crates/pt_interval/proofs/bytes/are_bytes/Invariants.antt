use Rattle.std.proofs.Common.{◌≡◌, drop}
use Rattle.pt_interval.specs.Instances.{are_bytes}
use Rattle.pt_interval.proofs.bytes.are_bytes.Given as goal

abbrev pub invariant-loop-byte : goal.invariant-loop-byte
invariant-loop-byte l = are_bytes l.bytes ≡ are_bytes (drop l.byte-index l.bytes)
