use Rattle.std.proofs.Common.{map}
use Rattle.std.specs.List.{range_with_len}
use Rattle.pt_written.specs.WrittenParts.{part_made}
use Rattle.pt_complete.proofs.Naming.{AreNamed}
use Rattle.pt_complete.proofs.parts_named.parts_made.Given as goal

abbrev pub invariant-loop-number : goal.invariant-loop-number
invariant-loop-number l = AreNamed (map (part_made l.sub l.count) (range_with_len 0 l.parts_count)) l.number l.names l.parts
