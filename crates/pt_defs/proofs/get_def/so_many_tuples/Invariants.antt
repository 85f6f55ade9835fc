use Rattle.std.proofs.Common.{◌≡◌, ◌-◌}
use Rattle.pt_defs.specs.Reading.{many, tuple_at}
use Rattle.pt_defs.specs.Given.{with_front}
use Rattle.pt_defs.proofs.get_def.so_many_tuples.Given as goal

abbrev pub invariant-loop : goal.invariant-loop
invariant-loop l = with_front l.items (many (tuple_at l.width) (l.count - l.counter) l.rest) ≡ many (tuple_at l.width) l.count l.bytes
