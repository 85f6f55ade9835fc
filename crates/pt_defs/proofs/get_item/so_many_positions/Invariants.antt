use Rattle.std.proofs.Common.{◌≡◌, ◌-◌}
use Rattle.pt_defs.specs.Reading.{many, position_at}
use Rattle.pt_defs.specs.Given.{with_front}
use Rattle.pt_defs.proofs.get_item.so_many_positions.Given as goal

abbrev pub invariant-loop : goal.invariant-loop
invariant-loop l = with_front l.items (many (position_at l.width) (l.count - l.counter) l.rest) ≡ many (position_at l.width) l.count l.bytes
